-- Assumes nothing.
use Prim.Native.Nat.{◌-◌}
use mathlib.Core.Path.{refl}
use mathlib.Core.List.{[], ◌∷◌}
use native.Mathlib.Omega.{arith}
use Rattle.operators.specs.Operators.{read_operator}
use Rattle.std.specs.Prelude.{Ok, Err}
use Rattle.scan.proofs.Laws.{on-range, off-keys, full}
use Rattle.operators.proofs.operator.Goals as goal

pub returns-in-48-to-57 : goal.returns-in-48-to-57
unfolding read_operator
returns-in-48-to-57 c = λ rest. on-range 48 10 (λ c. Ok (c - 48, 1)) (λ c. read_operator (c ∷ rest)) refl c.args.c (omega arith) (omega arith)

pub returns-in-65-to-90 : goal.returns-in-65-to-90
unfolding read_operator
returns-in-65-to-90 c = λ rest. on-range 65 26 (λ c. Ok (c - 55, 1)) (λ c. read_operator (c ∷ rest)) refl c.args.c (omega arith) (omega arith)

pub returns-in_default : goal.returns-in_default
unfolding read_operator
returns-in_default c = λ rest. on-range 0 48 (λ c. Err 1) (λ c. read_operator (c ∷ rest)) (rw (full 1 (0 ∷ rest) (omega arith))) c.args.c (omega arith) (omega arith)

pub returns-in_default-2 : goal.returns-in_default-2
unfolding read_operator
returns-in_default-2 c = λ rest. on-range 58 7 (λ c. Err 1) (λ c. read_operator (c ∷ rest)) (rw (full 1 (0 ∷ rest) (omega arith))) c.args.c (omega arith) (omega arith)

pub returns-in_default-3 : goal.returns-in_default-3
unfolding read_operator
returns-in_default-3 c = λ rest. off-keys (95 ∷ []) 91 165 (λ c. Err 1) (λ c. read_operator (c ∷ rest)) (rw (full 1 (0 ∷ rest) (omega arith))) c.args.c (omega arith) (omega arith) (_, c.requires)
