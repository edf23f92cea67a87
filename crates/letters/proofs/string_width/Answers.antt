-- Assumes nothing.
use Prim.Native.Nat.{◌-◌}
use mathlib.Core.Path.{refl}
use mathlib.Core.List.{◌∷◌}
use native.Mathlib.Omega.{arith}
use Rattle.scan.proofs.Laws.{on-range}
use Rattle.letters.specs.Classes.{read_string_width}
use Rattle.std.specs.Prelude.{Ok, Err}
use Rattle.letters.proofs.Spelled.{up_to-one}
use Rattle.letters.proofs.string_width.Goals as goal

pub returns-in-48-to-49 : goal.returns-in-48-to-49
unfolding read_string_width
returns-in-48-to-49 c = λ rest. on-range 48 2 (λ c. Ok (c - 47, 1)) (λ c. read_string_width (c ∷ rest)) refl c.args.c (omega arith) (omega arith)

pub returns-in_default : goal.returns-in_default
unfolding read_string_width
returns-in_default c = λ rest. on-range 0 48 (λ c. Err 1) (λ c. read_string_width (c ∷ rest)) (rw (up_to-one 0 rest)) c.args.c (omega arith) (omega arith)

pub returns-in_default-2 : goal.returns-in_default-2
unfolding read_string_width
returns-in_default-2 c = λ rest. on-range 50 206 (λ c. Err 1) (λ c. read_string_width (c ∷ rest)) (rw (up_to-one 0 rest)) c.args.c (omega arith) (omega arith)
