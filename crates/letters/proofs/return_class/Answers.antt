-- Assumes nothing.
use Prim.Native.Nat.{◌-◌}
use mathlib.Core.Path.{refl}
use mathlib.Core.List.{◌∷◌}
use native.Mathlib.Omega.{arith}
use Rattle.scan.proofs.Laws.{on-range}
use Rattle.letters.specs.Classes.{read_storage_class_for_return}
use Rattle.std.specs.Prelude.{Ok, Err}
use Rattle.letters.proofs.Spelled.{up_to-two}
use Rattle.letters.proofs.return_class.Goals as goal

pub returns-in-65-to-68 : goal.returns-in-65-to-68
unfolding read_storage_class_for_return
returns-in-65-to-68 c = λ rest. on-range 65 4 (λ c. Ok (c - 65, 2)) (λ c. read_storage_class_for_return (63 ∷ c ∷ rest)) refl c.args.c (omega arith) (omega arith)

pub returns-in_default : goal.returns-in_default
unfolding read_storage_class_for_return
returns-in_default c = λ rest. on-range 0 65 (λ c. Err 2) (λ c. read_storage_class_for_return (63 ∷ c ∷ rest)) (rw (up_to-two 0 0 rest)) c.args.c (omega arith) (omega arith)

pub returns-in_default-2 : goal.returns-in_default-2
unfolding read_storage_class_for_return
returns-in_default-2 c = λ rest. on-range 69 187 (λ c. Err 2) (λ c. read_storage_class_for_return (63 ∷ c ∷ rest)) (rw (up_to-two 0 0 rest)) c.args.c (omega arith) (omega arith)
