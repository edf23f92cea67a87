-- What the readers take is there: no more bytes than remain, also where they refuse. Assumes nothing.
use Prim.Native.Nat.{ℕ, zero, suc, ◌+◌, ◌*◌, ◌-◌, ◌%◌, ◌^◌, ◌≤◌}
use Prim.Native.Char.{code}
use mathlib.Core.Path.{◌≡◌}
use mathlib.Core.Bool.{Bool, true, false}
use mathlib.Core.List.{List, [], ◌∷◌}
use native.Mathlib.Omega.{arith}
use lib.ListN.{length, drop, length-drop}
use Rattle.scan.specs.Bytes.{pick, is, between, is_digit}
use Rattle.scan.specs.Number.{sign, letters, magnitude, read_number}
use Rattle.scan.specs.Cursor.{Leaf}
use Rattle.std.specs.Prelude.{Ok, Err}

abbrev pub Fits : ℕ → Leaf → Type 0
Fits most (Ok (v, n)) = n ≤ most
Fits most (Err n) = n ≤ most

pub pick-fits : (most : ℕ) (b : Bool) (x y : Leaf) → Fits most x → Fits most y → Fits most (pick b x y)
pick-fits most true x y f g = f
pick-fits most false x y f g = g

pub more-fits : (less most : ℕ) (x : Leaf) → less ≤ most → Fits less x → Fits most x
more-fits less most (Ok (v, n)) h f = omega arith
more-fits less most (Err n) h f = omega arith

-- numbers: n bytes are taken already
letters-fits : (neg : Bool) (n v : ℕ) (r : List ℕ) → Fits (n + length r) (letters neg n v r)
unfolding letters
letters-fits neg n v [] = omega arith
letters-fits neg n v (c ∷ r) =
    pick-fits (n + suc (length r)) (is "@" c) (Ok (_, n + 1)) _ (omega arith)
    (pick-fits (n + suc (length r)) (between "A" "P" c) _ (Err n)
    (more-fits (n + 1 + length r) (n + suc (length r)) (letters neg (n + 1) ((v * 16 + (c - code "A")) % 2 ^ 32) r) (omega arith)
    (letters-fits neg (n + 1) ((v * 16 + (c - code "A")) % 2 ^ 32) r)) (omega arith))

magnitude-fits : (neg : Bool) (r : List ℕ) → Fits (sign neg + length r) (magnitude neg r)
unfolding magnitude
magnitude-fits neg [] = omega arith
magnitude-fits neg (c ∷ r) =
    pick-fits (sign neg + suc (length r)) (is_digit c) (Ok (_, sign neg + 1)) (letters neg (sign neg) 0 (c ∷ r)) (omega arith)
    (letters-fits neg (sign neg) 0 (c ∷ r))

pub number_fits : (r : List ℕ) → Fits (length r) (read_number r)
unfolding read_number
number_fits [] = omega arith
number_fits (c ∷ r) =
    pick-fits (suc (length r)) (is "?" c) (magnitude true r) (magnitude false (c ∷ r))
    (more-fits (1 + length r) (suc (length r)) (magnitude true r) (omega arith) (magnitude-fits true r))
    (more-fits (0 + suc (length r)) (suc (length r)) (magnitude false (c ∷ r)) (omega arith) (magnitude-fits false (c ∷ r)))

-- there is no number past the end
pub number-inside : (s : List ℕ) (at : ℕ) {v n : ℕ} → read_number (drop at s) ≡ Ok (v, n) → at ≤ length s
unfolding read_number
number-inside s zero e = omega arith
number-inside [] (suc at) e = let z : ◌≡◌ {A = ℕ} 0 1 = cc in absurd (omega arith)
number-inside (c ∷ s) (suc at) e = omega (arith, number-inside s at e)

-- so behind what a reader takes from a place on is a place
module _ (read : List ℕ → Leaf) (all : (r : List ℕ) → Fits (length r) (read r)) (s : List ℕ) (at : ℕ) where
  pub value_stays : {v n : ℕ} → at ≤ length s → read (drop at s) ≡ Ok (v, n) → at + n ≤ length s
  value_stays h e = omega (arith, length-drop at s, rw e at (all (drop at s)))

  pub bad-stays : {n : ℕ} → at ≤ length s → read (drop at s) ≡ Err n → at + n ≤ length s
  bad-stays h e = omega (arith, length-drop at s, rw e at (all (drop at s)))
