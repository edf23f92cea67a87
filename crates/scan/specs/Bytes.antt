-- Byte strings as quoted text, kinds of bytes, and the words for ordered choice. `r` is what remains of the symbol, as `self.remaining` in the crate.
-- Assumes nothing: these are definitions.
use Rattle.std.specs.Prelude.{ℕ, zero, suc, ◌+◌, min, List, [], ◌∷◌, Bool, true, false, length, leb, eqb}
use Prim.Native.String.{String, len, char_at}
use Prim.Native.Char.{Char, code}

abbrev pub pick : {A : Type 0} → Bool → A → A → A
pick true a b = a
pick false a b = b

-- `bytes "W4"` is 87 ∷ 52 ∷ []
abbrev pub bytes_from : String → ℕ → ℕ → List ℕ
bytes_from t i zero = []
bytes_from t i (suc n) = code (char_at t i) ∷ bytes_from t (i + 1) n

abbrev pub bytes : String → List ℕ
bytes t = bytes_from t 0 (len t)

-- do the bytes begin with the literal
abbrev pub starts : List ℕ → List ℕ → Bool
starts [] r = true
starts (b ∷ bs) [] = false
starts (b ∷ bs) (c ∷ r) = pick (eqb c b) (starts bs r) false

abbrev pub is : Char → ℕ → Bool
is l c = eqb c (code l)

abbrev pub between : Char → Char → ℕ → Bool
between low high c = pick (leb (code low) c) (leb c (code high)) false

abbrev pub is_digit : ℕ → Bool
is_digit c = between "0" "9" c

abbrev pub is_lower : ℕ → Bool
is_lower c = between "a" "z" c

abbrev pub is_upper : ℕ → Bool
is_upper c = between "A" "Z" c

abbrev pub is_hex : ℕ → Bool
is_hex c = pick (is_digit c) true (pick (between "a" "f" c) true (between "A" "F" c))

-- Ordered choice among spellings: the first that stands here decides, and takes its own length.
-- `make` says what is answered, of the value beside the spelling and the bytes taken.
abbrev pub spelled : {X A : Type 0} → (X → ℕ → A) → List (String × X) → A → List ℕ → A
spelled make [] other r = other
spelled make ((t, v) ∷ ts) other r = pick (starts (bytes t) r) (make v (length (bytes t))) (spelled make ts other r)

-- n bytes, or all that are left where there are fewer: what a run of n `get`s takes before the end refuses
abbrev pub up_to : ℕ → List ℕ → ℕ
up_to n r = min n (length r)
