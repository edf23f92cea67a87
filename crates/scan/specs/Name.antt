-- The parts of names. Assumes nothing: these are definitions.
use Rattle.std.specs.Prelude.{ℕ, ◌+◌, List, [], ◌∷◌, drop, eqb, Ok, Err}
use Rattle.scan.specs.Bytes.{pick, is, is_hex, bytes, starts}
use Rattle.scan.specs.Cursor.{Span}

-- read_string: n bytes are passed; the next `@` is taken too
unfoldable pub string_from : ℕ → List ℕ → Span
string_from n [] = Err 0
string_from n (c ∷ r) = pick (is "@" c) (Ok (n + 1)) (string_from (n + 1) r)

abbrev pub read_string : List ℕ → Span
read_string r = string_from 0 r

-- how many hex digits stand here, of either case
unfoldable pub hex_digits_from : ℕ → List ℕ → ℕ
hex_digits_from n [] = n
hex_digits_from n (c ∷ r) = pick (is_hex c) (hex_digits_from (n + 1) r) n

abbrev pub read_hex_digits : List ℕ → ℕ
read_hex_digits r = hex_digits_from 0 r

-- read_md5_name: all hex digits are taken, and there must be 32 of them and an `@`
abbrev pub read_md5_name : List ℕ → Span
read_md5_name r =
    pick (eqb (read_hex_digits r) 32) (pick (starts (bytes "@") (drop 32 r)) (Ok 33) (Err 32)) (Err (read_hex_digits r))
