-- Assumes nothing.
use Prim.Native.Nat.{◌+◌}
use mathlib.Core.Path.{refl}
use mathlib.Core.List.{◌∷◌}
use native.Mathlib.Omega.{arith}
use Rattle.operators.specs.Operators.{read_operator}
use Rattle.std.specs.Prelude.{Ok, Err}
use Rattle.scan.proofs.Laws.{on-range, full}
use Rattle.operators.proofs.rtti_operator.Goals as goal

pub returns-in-48-to-49 : goal.returns-in-48-to-49
unfolding read_operator
returns-in-48-to-49 c = λ rest. on-range 48 2 (λ c. Ok (c + 27, 3)) (λ c. read_operator (95 ∷ 82 ∷ c ∷ rest)) refl c.args.c (omega arith) (omega arith)

pub returns-in-50-to-52 : goal.returns-in-50-to-52
unfolding read_operator
returns-in-50-to-52 c = λ rest. on-range 50 3 (λ c. Ok (c + 19, 3)) (λ c. read_operator (95 ∷ 82 ∷ c ∷ rest)) refl c.args.c (omega arith) (omega arith)

pub returns-in_default : goal.returns-in_default
unfolding read_operator
returns-in_default c = λ rest. on-range 0 48 (λ c. Err 3) (λ c. read_operator (95 ∷ 82 ∷ c ∷ rest)) (rw (full 3 (95 ∷ 82 ∷ 0 ∷ rest) (omega arith))) c.args.c (omega arith) (omega arith)

pub returns-in_default-2 : goal.returns-in_default-2
unfolding read_operator
returns-in_default-2 c = λ rest. on-range 53 203 (λ c. Err 3) (λ c. read_operator (95 ∷ 82 ∷ c ∷ rest)) (rw (full 3 (95 ∷ 82 ∷ 0 ∷ rest) (omega arith))) c.args.c (omega arith) (omega arith)
