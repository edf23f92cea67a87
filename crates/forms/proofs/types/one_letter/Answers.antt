-- Assumes nothing.
use Prim.Native.Nat.{◌-◌}
use mathlib.Core.Path.{refl}
use mathlib.Core.List.{[], ◌∷◌}
use native.Mathlib.Omega.{arith}
use Rattle.std.specs.Prelude.{Some, None}
use Rattle.forms.specs.Start.{start}
use Rattle.forms.specs.Types.{type_letter}
use Rattle.forms.specs.declared.types.TypeLetter.TheVariants.{Basic}
use Rattle.scan.proofs.Laws.{on-range, off-keys, full, wide}
use Rattle.forms.proofs.types.one_letter.Goals as goal

pub overflow_cast-result : goal.overflow_cast-result
overflow_cast-result c = wide c.args.c 65 c.ranges.c

pub overflow_cast-result-in-77-to-79 : goal.overflow_cast-result-in-77-to-79
overflow_cast-result-in-77-to-79 c = wide c.args.c 58 c.ranges.c

pub returns-in-63 : goal.returns-in-63
unfolding type_letter
returns-in-63 c = λ rest. rw c.in-63.is

pub returns-in-84 : goal.returns-in-84
unfolding type_letter
returns-in-84 c = λ rest. rw c.in-84.is

pub returns-in-85 : goal.returns-in-85
unfolding type_letter
returns-in-85 c = λ rest. rw c.in-85.is

pub returns-in-86 : goal.returns-in-86
unfolding type_letter
returns-in-86 c = λ rest. rw c.in-86.is

pub returns-in-65 : goal.returns-in-65
unfolding type_letter
returns-in-65 c = λ rest. rw c.in-65.is

pub returns-in-66 : goal.returns-in-66
unfolding type_letter
returns-in-66 c = λ rest. rw c.in-66.is

pub returns-in-80 : goal.returns-in-80
unfolding type_letter
returns-in-80 c = λ rest. rw c.in-80.is

pub returns-in-81 : goal.returns-in-81
unfolding type_letter
returns-in-81 c = λ rest. rw c.in-81.is

pub returns-in-82 : goal.returns-in-82
unfolding type_letter
returns-in-82 c = λ rest. rw c.in-82.is

pub returns-in-83 : goal.returns-in-83
unfolding type_letter
returns-in-83 c = λ rest. rw c.in-83.is

pub returns-in-89 : goal.returns-in-89
unfolding type_letter
returns-in-89 c = λ rest. rw c.in-89.is

pub returns-in-88 : goal.returns-in-88
unfolding type_letter
returns-in-88 c = λ rest. rw c.in-88.is

pub returns-in-68 : goal.returns-in-68
unfolding type_letter
returns-in-68 c = λ rest. rw c.in-68.is

pub returns-in-67 : goal.returns-in-67
unfolding type_letter
returns-in-67 c = λ rest. rw c.in-67.is

pub returns-in-69-to-75 : goal.returns-in-69-to-75
unfolding type_letter
returns-in-69-to-75 known = λ rest. off-keys (95 ∷ 67 ∷ 68 ∷ 88 ∷ 89 ∷ 83 ∷ 82 ∷ 81 ∷ 80 ∷ 66 ∷ 65 ∷ 86 ∷ 85 ∷ 84 ∷ 63 ∷ []) 65 11 (λ c. start (Some (Basic (c - 65))) 1) (λ c. type_letter (c ∷ rest)) refl known.args.c known.in-69-to-75.if-c-lt65-own.false known.in-69-to-75.if-c-lt76-own.true (known.in-69-to-75.in_default-own.rest, known.requires)

pub returns-in-77-to-79 : goal.returns-in-77-to-79
unfolding type_letter
returns-in-77-to-79 known = λ rest. on-range 77 3 (λ c. start (Some (Basic (c - 58))) 1) (λ c. type_letter (c ∷ rest)) refl known.args.c known.in-77-to-79.if-c-lt77-own.false known.in-77-to-79.if-c-lt80-own.true

pub returns-in_default : goal.returns-in_default
unfolding type_letter
returns-in_default known = λ rest. off-keys (95 ∷ 67 ∷ 68 ∷ 88 ∷ 89 ∷ 83 ∷ 82 ∷ 81 ∷ 80 ∷ 66 ∷ 65 ∷ 86 ∷ 85 ∷ 84 ∷ 63 ∷ []) 0 65 (λ c. start None 1) (λ c. type_letter (c ∷ rest)) (rw (full 1 (0 ∷ rest) (omega arith))) known.args.c (omega arith) known.in_default.if-c-lt65-own.true (known.in_default.in_default-own.rest, known.requires)

pub returns-in_default-2 : goal.returns-in_default-2
unfolding type_letter
returns-in_default-2 known = λ rest. off-keys (95 ∷ 67 ∷ 68 ∷ 88 ∷ 89 ∷ 83 ∷ 82 ∷ 81 ∷ 80 ∷ 66 ∷ 65 ∷ 86 ∷ 85 ∷ 84 ∷ 63 ∷ []) 76 1 (λ c. start None 1) (λ c. type_letter (c ∷ rest)) (rw (full 1 (0 ∷ rest) (omega arith))) known.args.c known.in_default.if-c-lt76-own.false known.in_default.if-c-lt77-own.true (known.in_default.in_default-own.rest, known.requires)

pub returns-in_default-3 : goal.returns-in_default-3
unfolding type_letter
returns-in_default-3 known = λ rest. off-keys (95 ∷ 67 ∷ 68 ∷ 88 ∷ 89 ∷ 83 ∷ 82 ∷ 81 ∷ 80 ∷ 66 ∷ 65 ∷ 86 ∷ 85 ∷ 84 ∷ 63 ∷ []) 80 176 (λ c. start None 1) (λ c. type_letter (c ∷ rest)) (rw (full 1 (0 ∷ rest) (omega arith))) known.args.c known.in_default.if-c-lt80-own.false known.ranges.c.fits (known.in_default.in_default-own.rest, known.requires)
