-- The numbers that the scope marks to be proved, as one table and one statement; the two bad ones have the offset of the later request M-113. Assumes nothing.
use Rattle.std.specs.Prelude.{ℕ, ◌≡◌, refl, List, [], ◌∷◌, map, ℤ, pos, negsuc, Ok, Err}
use Prim.Native.String.{String}
use Rattle.std.specs.Int.{w32}
use Rattle.std.proofs.Common.{to_z}
use Rattle.scan.specs.Bytes.{bytes}
use Rattle.scan.specs.Number.{read_number, magnitude, letters}
use Rattle.scan.specs.Cursor.{Leaf}

-- a signed number, or the offset of the refusal
pub data Outcome : Type 0 where
  value : ℤ → Outcome
  refused : ℕ → Outcome

abbrev pub outcome : Leaf → Outcome
outcome (Ok (v, n)) = value (to_z w32 v)
outcome (Err n) = refused n

abbrev pub read : List (String × Outcome) → List Outcome
read cases = map (λ c. outcome (read_number (bytes c.0))) cases

abbrev pub stated : List (String × Outcome) → List Outcome
stated cases = map (λ c. c.1) cases

abbrev pub numbers : List (String × Outcome)
numbers =
    ("0", value (pos 1)) ∷ ("9", value (pos 10)) ∷ ("?0", value (negsuc 0)) ∷ ("@", value (pos 0)) ∷ ("?@", value (pos 0))
    ∷ ("BA@", value (pos 16)) ∷ ("?BA@", value (negsuc 15)) ∷ ("PPPPPPPP@", value (negsuc 0)) ∷ ("BAAAAAAAA@", value (pos 0))
    ∷ ("?IAAAAAAA@", value (negsuc 2147483647)) ∷ ("B0@", refused 1) ∷ ("A", refused 1) ∷ []

-- the table is what the written rule gives
abbrev pub NumberCases : Type 0
NumberCases = read numbers ≡ stated numbers

pub number-cases : NumberCases
unfolding read_number magnitude letters
number-cases = refl
