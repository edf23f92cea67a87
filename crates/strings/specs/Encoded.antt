-- Encoded strings. Assumes nothing: these are definitions.
use Rattle.std.specs.Prelude.{ℕ, zero, suc, ◌+◌, ◌*◌, ◌-◌, ◌^◌, min, Bool, true, List, [], ◌∷◌, get_or, drop, leb, Result, Ok, Err}
use Prim.Native.Char.{code}
use Rattle.scan.specs.Bytes.{pick, bytes, is, between, is_digit, is_lower, is_upper}
use Rattle.scan.specs.Number.{read_number}
use Rattle.scan.specs.Cursor.{Leaf, Span}
use Rattle.strings.specs.declared.encoded.Chars.{Chars}

-- one character: its byte and the bytes taken, or the bytes taken before the refusal. Behind `?$` both letters are A to P
abbrev pub is_plain : ℕ → Bool
is_plain c = pick (is_digit c) true (pick (is_lower c) true (pick (is_upper c) true (pick (is "_" c) true (is "$" c))))

abbrev pub is_nibble : ℕ → Bool
is_nibble c = between "A" "P" c

unfoldable pub low_letter : ℕ → List ℕ → Leaf
low_letter high [] = Err 3
low_letter high (c ∷ r) = pick (is_nibble c) (Ok ((high - code "A") * 16 + (c - code "A"), 4)) (Err 4)

unfoldable pub hex_pair : List ℕ → Leaf
hex_pair [] = Err 2
hex_pair (c ∷ r) = pick (is_nibble c) (low_letter c r) (Err 3)

unfoldable pub escape : List ℕ → Leaf
escape [] = Err 1
escape (c ∷ r) =
    pick (is_upper c) (Ok (c - code "A" + 225, 2))
    (pick (is_lower c) (Ok (c - code "a" + 225, 2))
    (pick (is_digit c) (Ok (get_or (bytes ",/\\:. \n\t'-") (c - code "0") 0, 2))
    (pick (is "$" c) (hex_pair r) (Err 2))))

unfoldable pub character : List ℕ → Leaf
character [] = Err 0
character (c ∷ r) = pick (is_plain c) (Ok (c, 1)) (pick (is "?" c) (escape r) (Err 1))

-- so many characters, n bytes being taken
abbrev pub onward : Leaf → (ℕ → Span) → (ℕ → Span) → Span
onward (Ok (v, t)) f g = f t
onward (Err t) f g = g t

unfoldable pub characters : ℕ → ℕ → List ℕ → Span
characters zero n r = Ok n
characters (suc k) n r = onward (character r) (λ t. characters k (n + t) (drop t r)) (λ t. Err (n + t))

-- read_encoded_string: min(length, 32 × width) characters behind the length and a checksum; none where the length is negative
abbrev pub kept : ℕ → ℕ → ℕ
kept length width = pick (leb (2 ^ 31) length) 0 (min length (32 * width))

abbrev pub Encoded : Type 0
Encoded = Result Chars ℕ

abbrev pub chars : ℕ → ℕ → ℕ → Chars
chars length start taken = record { length = length; start = start; taken = taken }

abbrev pub strung : ℕ → ℕ → Span → Encoded
strung length start (Ok n) = Ok (chars length start (start + n))
strung length start (Err n) = Err (start + n)

abbrev pub behind_checksum : ℕ → ℕ → ℕ → List ℕ → Leaf → Encoded
behind_checksum width length a r (Ok (v, b)) = strung length (a + b) (characters (kept length width) 0 (drop (a + b) r))
behind_checksum width length a r (Err b) = Err (a + b)

abbrev pub behind_length : ℕ → List ℕ → Leaf → Encoded
behind_length width r (Ok (v, a)) = behind_checksum width v a r (read_number (drop a r))
behind_length width r (Err a) = Err a

unfoldable pub read_encoded_string : ℕ → List ℕ → Encoded
read_encoded_string width r = behind_length width r (read_number r)
