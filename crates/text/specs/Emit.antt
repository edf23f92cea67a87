-- A text is a function of the last byte written before it; what a writer leaves in a buffer of any length. Assumes nothing: these are definitions.
use Rattle.std.specs.Prelude.{◌≡◌, ℕ, ◌+◌, Bool, List, [], ◌∷◌, ◌++◌, length, take, drop, nat_le, nat_lt}
use Prim.Native.String.{String}
use Rattle.scan.specs.Bytes.{pick, bytes}

infixr 60 ◌⨾◌
-- the bytes, given the last byte before them (256: none)
abbrev pub Text : Type 0
Text = ℕ → List ℕ

-- the last byte after t
unfoldable pub last_of : ℕ → List ℕ → ℕ
last_of l [] = l
last_of l (x ∷ xs) = last_of x xs

unfoldable pub none : Text
none l = []

unfoldable pub lit : List ℕ → Text
lit s l = s

-- `self.w.extend(b"..")`
abbrev pub put : String → Text
put s = lit (bytes s)

-- one text and then another
unfoldable pub ◌⨾◌ : Text → Text → Text
◌⨾◌ f g l = f l ++ g (last_of l (f l))

abbrev pub when : Bool → Text → Text
when test t = pick test t none

abbrev pub unless : Bool → Text → Text
unless test t = pick test none t

-- w, cut where b ends, with the rest of b after it
unfoldable pub cut : List ℕ → List ℕ → List ℕ
cut b w = take (length b) w ++ drop (length w) b

-- the last byte before place o of b, 256 where there is none
unfoldable pub last_at : List ℕ → ℕ → ℕ
last_at b o = last_of 256 (take o b)

-- the place after n bytes more, in a buffer of `room` bytes; where they do not fit, the place is past the end, and stays there
unfoldable pub place_after : ℕ → ℕ → ℕ → ℕ
place_after room o n = pick (nat_lt room o) o (pick (nat_le (o + n) room) (o + n) (room + 1))

-- a writer of T takes the buffer b and the place o to b' and o'
pub record Wrote (T : Text) (b : List ℕ) (o : ℕ) (b' : List ℕ) (o' : ℕ) : Type 0 where
  pub buf : b' ≡ cut b (take o b ++ T (last_at b o))
  pub out : o' ≡ place_after (length b) o (length (T (last_at b o)))
