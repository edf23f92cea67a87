-- Assumes nothing.
use Prim.{tt}
use Prim.Native.Nat.{◌+◌, ◌-◌}
use mathlib.Core.Path.{refl}
use mathlib.Core.List.{[], ◌∷◌}
use native.Mathlib.Omega.{arith}
use lib.ListN.{get_or}
use Rattle.scan.proofs.Laws.{on-range, off-keys}
use Rattle.scan.specs.Bytes.{bytes}
use Rattle.strings.specs.Encoded.{escape}
use Rattle.std.specs.Prelude.{Ok, Err}
use mathlib.Core.Bool.{true}
use lib.Dec.{ltb}
use borrow.Author.Tests.{ltb-true}
use Rattle.strings.proofs.encoded.escape_letter.Goals as goal

pub overflow_cast-result-in-48-to-57 : goal.overflow_cast-result-in-48-to-57
overflow_cast-result-in-48-to-57 c = record { fits = ltb-true _ _ (on-range 48 10 (λ c. ltb (get_or (bytes ",/\\:. \n\t'-") (c - 48) 0) 4294967296) (λ c. true) refl c.args.c (omega arith) (omega arith)) }

pub returns-in-48-to-57 : goal.returns-in-48-to-57
unfolding escape
returns-in-48-to-57 c = λ rest. on-range 48 10 (λ c. Ok (get_or (bytes ",/\\:. \n\t'-") (c - 48) 0, 2)) (λ c. escape (c ∷ rest)) refl c.args.c (omega arith) (omega arith)

pub returns-in-65-to-90 : goal.returns-in-65-to-90
unfolding escape
returns-in-65-to-90 c = λ rest. on-range 65 26 (λ c. Ok (c + 160, 2)) (λ c. escape (c ∷ rest)) refl c.args.c (omega arith) (omega arith)

pub returns-in-97-to-122 : goal.returns-in-97-to-122
unfolding escape
returns-in-97-to-122 c = λ rest. on-range 97 26 (λ c. Ok (c + 128, 2)) (λ c. escape (c ∷ rest)) refl c.args.c (omega arith) (omega arith)

pub returns-in_default : goal.returns-in_default
unfolding escape
returns-in_default c = λ rest. off-keys (36 ∷ []) 0 48 (λ c. Err 2) (λ c. escape (c ∷ rest)) refl c.args.c (omega arith) (omega arith) (tt, c.requires)

pub returns-in_default-2 : goal.returns-in_default-2
unfolding escape
returns-in_default-2 c = λ rest. on-range 58 7 (λ c. Err 2) (λ c. escape (c ∷ rest)) refl c.args.c (omega arith) (omega arith)

pub returns-in_default-3 : goal.returns-in_default-3
unfolding escape
returns-in_default-3 c = λ rest. on-range 91 6 (λ c. Err 2) (λ c. escape (c ∷ rest)) refl c.args.c (omega arith) (omega arith)

pub returns-in_default-4 : goal.returns-in_default-4
unfolding escape
returns-in_default-4 c = λ rest. on-range 123 133 (λ c. Err 2) (λ c. escape (c ∷ rest)) refl c.args.c (omega arith) (omega arith)
