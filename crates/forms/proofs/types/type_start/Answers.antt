-- Assumes nothing.
use Prim.Native.Nat.{◌+◌}
use mathlib.Core.Path.{refl}
use mathlib.Core.List.{[], ◌∷◌}
use native.Mathlib.Omega.{arith}
use lib.ListN.{get_or, drop}
use Rattle.forms.specs.Start.{start}
use Rattle.forms.specs.Types.{type_start}
use Rattle.forms.specs.declared.types.TypeForm.TheVariants.{Plain}
use Rattle.scan.proofs.Laws.{split, past, off-keys}
use Rattle.forms.proofs.types.type_start.Goals as goal

pub returns-then-s-at : goal.returns-then-s-at
unfolding type_start
returns-then-s-at c = rw (past c.args.s.now c.args.at c.if-s-at.true)

pub returns-in-87 : goal.returns-in-87
unfolding type_start
returns-in-87 c = rw ((split c.args.s.now c.args.at c.if-s-at.false), c.in-87.is) c.start_if.ensures

pub returns-in-65 : goal.returns-in-65
unfolding type_start
returns-in-65 c = rw ((split c.args.s.now c.args.at c.if-s-at.false), c.in-65.is) c.start_if-in-65.ensures

pub returns-in-80 : goal.returns-in-80
returns-in-80 c = rw ((split c.args.s.now c.args.at c.if-s-at.false), c.in-80.is) c.start_of_pointer.ensures

pub returns-in-36 : goal.returns-in-36
returns-in-36 c = rw ((split c.args.s.now c.args.at c.if-s-at.false), c.in-36.is) c.start_behind_one.ensures

pub returns-in_default : goal.returns-in_default
unfolding type_start
returns-in_default known = rw ((split known.args.s.now known.args.at known.if-s-at.false)) (off-keys (36 ∷ 80 ∷ 65 ∷ 87 ∷ []) 0 256 (λ c. start Plain 0) (λ c. type_start (c ∷ drop (known.args.at + 1) known.args.s.now)) refl (get_or known.args.s.now known.args.at 0) (omega arith) (omega (arith, known.type_inv.s known.args.at)) known.in_default.in_default-own.rest)
