-- The cursor's leaves. Assumes nothing: these are definitions.
use Rattle.std.specs.Prelude.{ℕ, ◌-◌, List, [], ◌∷◌, length, Result, Option, Some, None, Ok, Err}
use Prim.Native.Char.{code}
use Rattle.scan.specs.Bytes.{pick, starts, is_digit, is_hex}

-- what a leaf reads: a value and the bytes taken, or the bytes taken before the refusal
abbrev pub Leaf : Type 0
Leaf = Result (ℕ × ℕ) ℕ

abbrev pub value : ℕ → ℕ → Leaf
value v n = Ok (v, n)

-- the same where the bytes themselves are the value
abbrev pub Span : Type 0
Span = Result ℕ ℕ

-- get: at the end it refuses
unfoldable pub get_byte : List ℕ → Option ℕ
get_byte [] = None
get_byte (c ∷ r) = Some c

-- expect: the literal is taken, or nothing is
abbrev pub expect_literal : List ℕ → List ℕ → Span
expect_literal literal r = pick (starts literal r) (Ok (length literal)) (Err 0)

-- read_digit
unfoldable pub read_digit : List ℕ → Option ℕ
read_digit [] = None
read_digit (c ∷ r) = pick (is_digit c) (Some (c - code "0")) None

-- read_hex_digit
unfoldable pub read_hex_digit : List ℕ → Option ℕ
read_hex_digit [] = None
read_hex_digit (c ∷ r) = pick (is_hex c) (Some c) None
