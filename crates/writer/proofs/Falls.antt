-- The measure of the cycle: a reference squared, so that a list's count fits between two references. Assumes nothing.
use Prim.Native.Nat.{ℕ, suc, ◌+◌, ◌*◌, ◌<◌, ◌≤◌}
use native.Mathlib.Nat.{mul-suc, suc-mul, mul-le-mul}
use native.Mathlib.Omega.{arith}

pub under : (b r : ℕ) → b < r → 8 * (b * b) + 8 * b + 7 < 8 * (r * r)
under b r h = let g : suc b * suc b ≤ r * r = mul-le-mul h h in omega (arith, g, mul-suc (suc b) b, suc-mul b b)

pub below : (b r : ℕ) → b ≤ r → b * b ≤ r * r
below b r h = mul-le-mul h h
