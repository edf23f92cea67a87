-- Assumes nothing.
use Prim.Native.Nat.{◌-◌}
use mathlib.Core.Path.{refl}
use mathlib.Core.List.{[], ◌∷◌}
use native.Mathlib.Omega.{arith}
use Rattle.operators.specs.Operators.{read_operator}
use Rattle.std.specs.Prelude.{Ok, Err}
use Rattle.scan.proofs.Laws.{on-range, off-keys, full}
use Rattle.operators.proofs.under_operator.Goals as goal

pub returns-in-48-to-57 : goal.returns-in-48-to-57
unfolding read_operator
returns-in-48-to-57 c = λ rest. on-range 48 10 (λ c. Ok (c - 12, 2)) (λ c. read_operator (95 ∷ c ∷ rest)) refl c.args.c (omega arith) (omega arith)

pub returns-in-65-to-79 : goal.returns-in-65-to-79
unfolding read_operator
returns-in-65-to-79 c = λ rest. on-range 65 15 (λ c. Ok (c - 19, 2)) (λ c. read_operator (95 ∷ c ∷ rest)) refl c.args.c (omega arith) (omega arith)

pub returns-in-83-to-86 : goal.returns-in-83-to-86
unfolding read_operator
returns-in-83-to-86 c = λ rest. on-range 83 4 (λ c. Ok (c - 22, 2)) (λ c. read_operator (95 ∷ c ∷ rest)) refl c.args.c (omega arith) (omega arith)

pub returns-in-88-to-89 : goal.returns-in-88-to-89
unfolding read_operator
returns-in-88-to-89 c = λ rest. on-range 88 2 (λ c. Ok (c - 23, 2)) (λ c. read_operator (95 ∷ c ∷ rest)) refl c.args.c (omega arith) (omega arith)

pub returns-in_default : goal.returns-in_default
unfolding read_operator
returns-in_default c = λ rest. on-range 0 48 (λ c. Err 2) (λ c. read_operator (95 ∷ c ∷ rest)) (rw (full 2 (95 ∷ 0 ∷ rest) (omega arith))) c.args.c (omega arith) (omega arith)

pub returns-in_default-2 : goal.returns-in_default-2
unfolding read_operator
returns-in_default-2 c = λ rest. on-range 58 7 (λ c. Err 2) (λ c. read_operator (95 ∷ c ∷ rest)) (rw (full 2 (95 ∷ 0 ∷ rest) (omega arith))) c.args.c (omega arith) (omega arith)

pub returns-in_default-3 : goal.returns-in_default-3
unfolding read_operator
returns-in_default-3 c = λ rest. off-keys (82 ∷ []) 80 3 (λ c. Err 2) (λ c. read_operator (95 ∷ c ∷ rest)) (rw (full 2 (95 ∷ 0 ∷ rest) (omega arith))) c.args.c (omega arith) (omega arith) (_, c.requires.0)

pub returns-in_default-4 : goal.returns-in_default-4
unfolding read_operator
returns-in_default-4 c = λ rest. on-range 87 1 (λ c. Err 2) (λ c. read_operator (95 ∷ c ∷ rest)) (rw (full 2 (95 ∷ 0 ∷ rest) (omega arith))) c.args.c (omega arith) (omega arith)

pub returns-in_default-5 : goal.returns-in_default-5
unfolding read_operator
returns-in_default-5 c = λ rest. off-keys (95 ∷ []) 90 166 (λ c. Err 2) (λ c. read_operator (95 ∷ c ∷ rest)) (rw (full 2 (95 ∷ 0 ∷ rest) (omega arith))) c.args.c (omega arith) (omega arith) (_, c.requires.1)
