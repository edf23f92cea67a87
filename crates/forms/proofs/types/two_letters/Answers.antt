-- Assumes nothing.
use Prim.Native.Nat.{◌-◌}
use mathlib.Core.Path.{refl}
use mathlib.Core.List.{[], ◌∷◌}
use native.Mathlib.Omega.{arith}
use Rattle.std.specs.Prelude.{Some, None}
use Rattle.forms.specs.Start.{start}
use Rattle.forms.specs.Types.{type_letter}
use Rattle.forms.specs.declared.types.TypeLetter.TheVariants.{Basic}
use Rattle.scan.proofs.Laws.{on-range, off-keys, full}
use Rattle.forms.proofs.types.two_letters.Goals as goal

pub returns-in-78 : goal.returns-in-78
unfolding type_letter
returns-in-78 c = λ rest. rw c.in-78.is

pub returns-in-87 : goal.returns-in-87
unfolding type_letter
returns-in-87 c = λ rest. rw c.in-87.is

pub returns-in-81 : goal.returns-in-81
unfolding type_letter
returns-in-81 c = λ rest. rw c.in-81.is

pub returns-in-83 : goal.returns-in-83
unfolding type_letter
returns-in-83 c = λ rest. rw c.in-83.is

pub returns-in-85 : goal.returns-in-85
unfolding type_letter
returns-in-85 c = λ rest. rw c.in-85.is

pub returns-in-74-to-77 : goal.returns-in-74-to-77
unfolding type_letter
returns-in-74-to-77 known = λ rest. on-range 74 4 (λ c. start (Some (Basic (c - 63))) 2) (λ c. type_letter (95 ∷ c ∷ rest)) refl known.args.c (omega arith) (omega arith)

pub returns-in_default : goal.returns-in_default
unfolding type_letter
returns-in_default known = λ rest. off-keys (85 ∷ 83 ∷ 81 ∷ 87 ∷ 78 ∷ []) 0 74 (λ c. start None 2) (λ c. type_letter (95 ∷ c ∷ rest)) (rw (full 2 (95 ∷ 0 ∷ rest) (omega arith))) known.args.c (omega arith) (omega arith) known.in_default.in_default-own.rest

pub returns-in_default-2 : goal.returns-in_default-2
unfolding type_letter
returns-in_default-2 known = λ rest. off-keys (85 ∷ 83 ∷ 81 ∷ 87 ∷ 78 ∷ []) 78 178 (λ c. start None 2) (λ c. type_letter (95 ∷ c ∷ rest)) (rw (full 2 (95 ∷ 0 ∷ rest) (omega arith))) known.args.c (omega arith) (omega arith) known.in_default.in_default-own.rest
