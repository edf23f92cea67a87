-- Assumes nothing.
use Prim.Native.Nat.{◌+◌, ◌-◌}
use mathlib.Core.Path.{refl}
use mathlib.Core.List.{[], ◌∷◌}
use native.Mathlib.Omega.{arith}
use lib.ListN.{get_or, drop}
use Rattle.forms.specs.Start.{start}
use Rattle.forms.specs.Begins.{name_start}
use Rattle.forms.specs.declared.begins.NameForm.TheVariants.{Stored, Plain}
use Rattle.scan.proofs.Laws.{split, past, on-range, off-keys}
use Rattle.forms.proofs.begins.name_start.Goals as goal

pub returns-then-s-at : goal.returns-then-s-at
unfolding name_start
returns-then-s-at c = rw (past c.args.s.now c.args.at c.if-s-at.true)

pub returns-in-63 : goal.returns-in-63
returns-in-63 c = rw ((split c.args.s.now c.args.at c.if-s-at.false), c.in-63.is) c.name_behind_mark.ensures

pub returns-in-48-to-57 : goal.returns-in-48-to-57
unfolding name_start
returns-in-48-to-57 known = rw ((split known.args.s.now known.args.at known.if-s-at.false)) (on-range 48 10 (λ c. start (Stored (c - 48)) 1) ((λ c. name_start (c ∷ drop (known.args.at + 1) known.args.s.now))) refl ((get_or known.args.s.now known.args.at 0)) (omega arith) (omega arith))

pub returns-in_default : goal.returns-in_default
unfolding name_start
returns-in_default known = rw ((split known.args.s.now known.args.at known.if-s-at.false)) (on-range 0 48 (λ c. start Plain 0) ((λ c. name_start (c ∷ drop (known.args.at + 1) known.args.s.now))) refl ((get_or known.args.s.now known.args.at 0)) (omega arith) (omega arith))

pub returns-in_default-2 : goal.returns-in_default-2
unfolding name_start
returns-in_default-2 known = rw ((split known.args.s.now known.args.at known.if-s-at.false)) (off-keys (63 ∷ []) 58 198 (λ c. start Plain 0) ((λ c. name_start (c ∷ drop (known.args.at + 1) known.args.s.now))) refl ((get_or known.args.s.now known.args.at 0)) (omega arith) (omega (arith, known.type_inv.s known.args.at)) known.in_default.in_default-own.rest)
