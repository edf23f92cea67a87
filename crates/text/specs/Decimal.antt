-- A 32-bit number, given as its bits, in decimal, as itoa and format! write it. Assumes nothing: these are definitions.
use Rattle.std.specs.Prelude.{◌≡◌, ℕ, zero, suc, ◌+◌, ◌-◌, ◌/◌, ◌%◌, ◌^◌, List, [], ◌∷◌, nat_lt, refl}
use Rattle.scan.specs.Bytes.{pick, bytes}

-- at most k digits of n, before those of acc
unfoldable pub digits : ℕ → ℕ → List ℕ → List ℕ
digits zero n acc = acc
digits (suc k) n acc = pick (nat_lt n 10) ((48 + n % 10) ∷ acc) (digits k (n / 10) ((48 + n % 10) ∷ acc))

-- a u32
unfoldable pub unsigned : ℕ → List ℕ
unsigned n = digits 10 n []

-- an i32: a minus sign where its highest bit is set
unfoldable pub decimal : ℕ → List ℕ
decimal n = pick (nat_lt n (2 ^ 31)) (unsigned n) (45 ∷ unsigned (2 ^ 32 - n))

cases : decimal 0 ∷ decimal 10 ∷ decimal (2 ^ 32 - 1) ∷ decimal (2 ^ 31) ∷ unsigned (2 ^ 32 - 1) ∷ [] ≡ bytes "0" ∷ bytes "10" ∷ bytes "-1" ∷ bytes "-2147483648" ∷ bytes "4294967295" ∷ []
unfolding decimal unsigned digits
cases = refl
