-- Numbers, as their 32 bits. Assumes nothing: these are definitions.
use Rattle.std.specs.Prelude.{ℕ, ◌+◌, ◌*◌, ◌-◌, ◌%◌, ◌^◌, Bool, true, false, List, [], ◌∷◌, leb, ltb, Option, Some, None, Ok, Err}
use Prim.Native.Char.{code}
use Rattle.scan.specs.Bytes.{pick, is, between, is_digit}
use Rattle.scan.specs.Cursor.{Leaf}

-- negation of 32 bits: it wraps
abbrev pub signed : Bool → ℕ → ℕ
signed neg v = pick neg ((2 ^ 32 - v) % 2 ^ 32) v

-- the bytes before the magnitude: the `?`
abbrev pub sign : Bool → ℕ
sign neg = pick neg 1 0

-- the digit that a byte stands for, where the lowest of so many digits is the byte low
abbrev pub digit_in : ℕ → ℕ → ℕ → Option ℕ
digit_in low base c = pick (leb low c) (pick (ltb (c - low) base) (Some (c - low)) None) None

abbrev pub with_digit : Option ℕ → (ℕ → Leaf) → Leaf → Leaf
with_digit (Some d) f other = f d
with_digit None f other = other

-- digits up to `@`: n bytes are taken and the value is v. High bits are dropped. Our readers of both kinds are this one
unfoldable pub digits : ℕ → ℕ → ℕ → ℕ → List ℕ → Leaf
digits low base n v [] = Err n
digits low base n v (c ∷ r) =
    pick (is "@" c) (Ok (v, n + 1))
    (with_digit (digit_in low base c) (λ d. digits low base (n + 1) ((v * base + d) % 2 ^ 32) r) (Err n))

-- letters A to P up to `@`: n bytes are taken and the value is v. High bits are dropped.
-- A bad number is refused at the byte that does not belong, or at the end; by the crate at its first letter.
unfoldable pub letters : Bool → ℕ → ℕ → List ℕ → Leaf
letters neg n v [] = Err n
letters neg n v (c ∷ r) =
    pick (is "@" c) (Ok (signed neg v, n + 1))
    (pick (between "A" "P" c) (letters neg (n + 1) ((v * 16 + (c - code "A")) % 2 ^ 32) r) (Err n))

-- a digit d gives d + 1
unfoldable pub magnitude : Bool → List ℕ → Leaf
magnitude neg [] = Err (sign neg)
magnitude neg (c ∷ r) = pick (is_digit c) (Ok (signed neg (c - code "0" + 1), sign neg + 1)) (letters neg (sign neg) 0 (c ∷ r))

-- read_number
unfoldable pub read_number : List ℕ → Leaf
read_number [] = Err 0
read_number (c ∷ r) = pick (is "?" c) (magnitude true r) (magnitude false (c ∷ r))

-- read_unsigned: a negative number is refused behind it
abbrev pub unsigned : Leaf → Leaf
unsigned (Ok (v, n)) = pick (ltb v (2 ^ 31)) (Ok (v, n)) (Err n)
unsigned (Err n) = Err n

unfoldable pub read_unsigned : List ℕ → Leaf
read_unsigned r = unsigned (read_number r)

-- parse, behind `?$TSS`: decimal digits, at least one, up to `@`; high bits are dropped
unfoldable pub guard_digits : ℕ → ℕ → List ℕ → Leaf
guard_digits n v [] = Err n
guard_digits n v (c ∷ r) =
    pick (is "@" c) (Ok (v, n + 1))
    (pick (is_digit c) (guard_digits (n + 1) ((v * 10 + (c - code "0")) % 2 ^ 32) r) (Err n))

unfoldable pub read_guard_number : List ℕ → Leaf
read_guard_number [] = Err 0
read_guard_number (c ∷ r) = pick (is_digit c) (guard_digits 1 (c - code "0") r) (Err 0)
