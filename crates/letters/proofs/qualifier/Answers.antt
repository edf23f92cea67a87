-- Assumes nothing.
use Prim.Native.Nat.{◌-◌}
use mathlib.Core.Path.{refl}
use mathlib.Core.List.{◌∷◌}
use native.Mathlib.Omega.{arith}
use Rattle.scan.proofs.Laws.{on-range}
use Rattle.letters.specs.Classes.{read_qualifier, class}
use Rattle.letters.proofs.qualifier.Goals as goal

pub returns-in-65-to-68 : goal.returns-in-65-to-68
unfolding read_qualifier
returns-in-65-to-68 c = λ rest. on-range 65 4 (λ c. class (c - 65) 1) (λ c. read_qualifier (c ∷ rest)) refl c.args.c (omega arith) (omega arith)

pub returns-in-81-to-84 : goal.returns-in-81-to-84
unfolding read_qualifier
returns-in-81-to-84 c = λ rest. on-range 81 4 (λ c. class (c - 81) 1) (λ c. read_qualifier (c ∷ rest)) refl c.args.c (omega arith) (omega arith)

pub returns-in_default : goal.returns-in_default
unfolding read_qualifier
returns-in_default c = λ rest. on-range 0 65 (λ c. class 0 0) (λ c. read_qualifier (c ∷ rest)) refl c.args.c (omega arith) (omega arith)

pub returns-in_default-2 : goal.returns-in_default-2
unfolding read_qualifier
returns-in_default-2 c = λ rest. on-range 69 12 (λ c. class 0 0) (λ c. read_qualifier (c ∷ rest)) refl c.args.c (omega arith) (omega arith)

pub returns-in_default-3 : goal.returns-in_default-3
unfolding read_qualifier
returns-in_default-3 c = λ rest. on-range 85 171 (λ c. class 0 0) (λ c. read_qualifier (c ∷ rest)) refl c.args.c (omega arith) (omega arith)
