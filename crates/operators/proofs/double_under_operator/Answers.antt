-- Assumes nothing.
use mathlib.Core.Path.{refl}
use mathlib.Core.List.{[], ◌∷◌}
use native.Mathlib.Omega.{arith}
use Rattle.operators.specs.Operators.{read_operator}
use Rattle.std.specs.Prelude.{Err}
use Rattle.scan.proofs.Laws.{off-keys}
use Rattle.operators.proofs.double_under_operator.Goals as goal

pub returns-in-76 : goal.returns-in-76
unfolding read_operator
returns-in-76 c = λ rest. rw c.in-76.is

pub returns-in-75 : goal.returns-in-75
unfolding read_operator
returns-in-75 c = λ rest. rw c.in-75.is

pub returns-in-69 : goal.returns-in-69
unfolding read_operator
returns-in-69 c = λ rest. rw c.in-69.is

pub returns-in-70 : goal.returns-in-70
unfolding read_operator
returns-in-70 c = λ rest. rw c.in-70.is

pub returns-in-74 : goal.returns-in-74
unfolding read_operator
returns-in-74 c = λ rest. rw c.in-74.is

pub returns-in_default : goal.returns-in_default
unfolding read_operator
returns-in_default c = λ rest. off-keys (74 ∷ 70 ∷ 69 ∷ 75 ∷ 76 ∷ []) 0 256 (λ c. Err 2) (λ c. read_operator (95 ∷ 95 ∷ c ∷ rest)) refl c.args.c (omega arith) (omega arith) c.in_default.in_default-own.rest
