-- Assumes nothing.
use Prim.Native.Nat.{◌+◌}
use mathlib.Core.Path.{refl}
use mathlib.Core.List.{[], ◌∷◌}
use native.Mathlib.Omega.{arith}
use lib.ListN.{get_or, drop}
use Rattle.forms.specs.Start.{start}
use Rattle.forms.specs.Begins.{name_start}
use Rattle.forms.specs.declared.begins.NameForm.TheVariants.{Discriminator}
use Rattle.scan.proofs.Laws.{split, past, off-keys}
use Rattle.forms.proofs.begins.name_behind_mark.Goals as goal

pub returns-then-s-at : goal.returns-then-s-at
unfolding name_start
returns-then-s-at c = rw (past c.args.s.now c.args.at c.if-s-at.true)

pub returns-in-63 : goal.returns-in-63
unfolding name_start
returns-in-63 c = rw ((split c.args.s.now c.args.at c.if-s-at.false), c.in-63.is)

pub returns-in-36 : goal.returns-in-36
unfolding name_start
returns-in-36 c = rw ((split c.args.s.now c.args.at c.if-s-at.false), c.in-36.is)

pub returns-in-65 : goal.returns-in-65
returns-in-65 c = rw ((split c.args.s.now c.args.at c.if-s-at.false), c.in-65.is) c.name_behind_a.ensures

pub returns-in-81 : goal.returns-in-81
unfolding name_start
returns-in-81 c = rw ((split c.args.s.now c.args.at c.if-s-at.false), c.in-81.is)

pub returns-in_default : goal.returns-in_default
unfolding name_start
returns-in_default known = rw ((split known.args.s.now known.args.at known.if-s-at.false)) (off-keys (81 ∷ 65 ∷ 36 ∷ 63 ∷ []) 0 256 (λ c. start Discriminator 1) (λ c. name_start (63 ∷ c ∷ drop (known.args.at + 1) known.args.s.now)) refl (get_or known.args.s.now known.args.at 0) (omega arith) (omega (arith, known.type_inv.s known.args.at)) known.in_default.in_default-own.rest)
