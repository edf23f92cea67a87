-- Past the last leaf there is none. Assumes nothing.
use Prim.Native.Nat.{ℕ, zero, suc, ◌≤◌}
use mathlib.Core.Path.{◌≡◌}
use mathlib.Core.List.{List, [], ◌∷◌}
use native.Mathlib.Omega.{arith}
use Rattle.scan.proofs.Laws.{None}

-- the numbers below n, the last first
abbrev pub down_from : ℕ → List ℕ
down_from zero = []
down_from (suc n) = n ∷ down_from n

pub beyond : (n c : ℕ) → None c (down_from n) → n ≤ c
beyond zero c off = omega arith
beyond (suc n) c off = let lower : n ≤ c = beyond n c off.0 in let other : (c ≡ n → ⊥) = off.1 in omega arith
