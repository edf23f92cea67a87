-- Assumes nothing.
use mathlib.Core.Path.{refl}
use mathlib.Core.List.{[], ◌∷◌}
use Rattle.scan.proofs.Laws.{on-range, off-keys}
use Rattle.letters.specs.Classes.{func_class_letter}
use Rattle.std.specs.Prelude.{Ok, Err}
use Rattle.letters.proofs.Spelled.{up_to-one}
use borrow.Author.Rules.{rules}
use Rattle.letters.proofs.func_class.Goals as goal

pub returns-in-65 : goal.returns-in-65
unfolding func_class_letter
returns-in-65 c = λ rest. rw c.in-65.is

pub returns-in-66 : goal.returns-in-66
unfolding func_class_letter
returns-in-66 c = λ rest. rw c.in-66.is

pub returns-in-71 : goal.returns-in-71
unfolding func_class_letter
returns-in-71 c = λ rest. rw c.in-71.is

pub returns-in-72 : goal.returns-in-72
unfolding func_class_letter
returns-in-72 c = λ rest. rw c.in-72.is

pub returns-in-73 : goal.returns-in-73
unfolding func_class_letter
returns-in-73 c = λ rest. rw c.in-73.is

pub returns-in-74 : goal.returns-in-74
unfolding func_class_letter
returns-in-74 c = λ rest. rw c.in-74.is

pub returns-in-75 : goal.returns-in-75
unfolding func_class_letter
returns-in-75 c = λ rest. rw c.in-75.is

pub returns-in-76 : goal.returns-in-76
unfolding func_class_letter
returns-in-76 c = λ rest. rw c.in-76.is

pub returns-in-77 : goal.returns-in-77
unfolding func_class_letter
returns-in-77 c = λ rest. rw c.in-77.is

pub returns-in-78 : goal.returns-in-78
unfolding func_class_letter
returns-in-78 c = λ rest. rw c.in-78.is

pub returns-in-79 : goal.returns-in-79
unfolding func_class_letter
returns-in-79 c = λ rest. rw c.in-79.is

pub returns-in-80 : goal.returns-in-80
unfolding func_class_letter
returns-in-80 c = λ rest. rw c.in-80.is

pub returns-in-81 : goal.returns-in-81
unfolding func_class_letter
returns-in-81 c = λ rest. rw c.in-81.is

pub returns-in-82 : goal.returns-in-82
unfolding func_class_letter
returns-in-82 c = λ rest. rw c.in-82.is

pub returns-in-83 : goal.returns-in-83
unfolding func_class_letter
returns-in-83 c = λ rest. rw c.in-83.is

pub returns-in-84 : goal.returns-in-84
unfolding func_class_letter
returns-in-84 c = λ rest. rw c.in-84.is

pub returns-in-85 : goal.returns-in-85
unfolding func_class_letter
returns-in-85 c = λ rest. rw c.in-85.is

pub returns-in-86 : goal.returns-in-86
unfolding func_class_letter
returns-in-86 c = λ rest. rw c.in-86.is

pub returns-in-87 : goal.returns-in-87
unfolding func_class_letter
returns-in-87 c = λ rest. rw c.in-87.is

pub returns-in-88 : goal.returns-in-88
unfolding func_class_letter
returns-in-88 c = λ rest. rw c.in-88.is

pub returns-in-89 : goal.returns-in-89
unfolding func_class_letter
returns-in-89 c = λ rest. rw c.in-89.is

pub returns-in-90 : goal.returns-in-90
unfolding func_class_letter
returns-in-90 c = λ rest. rw c.in-90.is

pub returns-in-67-to-68 : goal.returns-in-67-to-68
unfolding func_class_letter
returns-in-67-to-68 c = λ rest. off-keys (90 ∷ 89 ∷ 88 ∷ 87 ∷ 86 ∷ 85 ∷ 84 ∷ 83 ∷ 82 ∷ 81 ∷ 80 ∷ 79 ∷ 78 ∷ 77 ∷ 76 ∷ 75 ∷ 74 ∷ 73 ∷ 72 ∷ 71 ∷ 66 ∷ 65 ∷ []) 65 4 (λ c. Ok (20, 1)) (λ c. func_class_letter (c ∷ rest)) refl c.args.c c.in-67-to-68.if-c-lt65-own.false c.in-67-to-68.if-c-lt69-own.true c.in-67-to-68.in_default-own.rest

pub returns-in-69-to-70 : goal.returns-in-69-to-70
unfolding func_class_letter
returns-in-69-to-70 c = λ rest. on-range 69 2 (λ c. Ok (36, 1)) (λ c. func_class_letter (c ∷ rest)) refl c.args.c c.in-69-to-70.if-c-lt69-own.false c.in-69-to-70.if-c-lt71-own.true

pub returns-in_default : goal.returns-in_default
unfolding func_class_letter
returns-in_default c = λ rest. off-keys (90 ∷ 89 ∷ 88 ∷ 87 ∷ 86 ∷ 85 ∷ 84 ∷ 83 ∷ 82 ∷ 81 ∷ 80 ∷ 79 ∷ 78 ∷ 77 ∷ 76 ∷ 75 ∷ 74 ∷ 73 ∷ 72 ∷ 71 ∷ 66 ∷ 65 ∷ []) 0 65 (λ c. Err 1) (λ c. func_class_letter (c ∷ rest)) (rw (up_to-one 0 rest)) c.args.c (search rules) c.in_default.if-c-lt65-own.true c.in_default.in_default-own.rest

pub returns-in_default-2 : goal.returns-in_default-2
unfolding func_class_letter
returns-in_default-2 c = λ rest. off-keys (90 ∷ 89 ∷ 88 ∷ 87 ∷ 86 ∷ 85 ∷ 84 ∷ 83 ∷ 82 ∷ 81 ∷ 80 ∷ 79 ∷ 78 ∷ 77 ∷ 76 ∷ 75 ∷ 74 ∷ 73 ∷ 72 ∷ 71 ∷ 66 ∷ 65 ∷ []) 71 185 (λ c. Err 1) (λ c. func_class_letter (c ∷ rest)) (rw (up_to-one 0 rest)) c.args.c c.in_default.if-c-lt71-own.false c.ranges.c.fits c.in_default.in_default-own.rest
