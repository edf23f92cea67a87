-- A bad number is refused at the byte that does not belong. Assumes nothing.
use Prim.Native.Nat.{ℕ, zero, suc, ◌+◌, ◌*◌, ◌-◌, ◌%◌, ◌^◌, ◌<◌}
use Prim.Native.Char.{code}
use mathlib.Core.Path.{◌≡◌, refl, ap, ◌∙◌}
use mathlib.Core.Bool.{Bool, true, false}
use mathlib.Core.List.{List, [], ◌∷◌, ◌++◌}
use mathlib.Core.Logic.{◌⊎◌, inl, inr, ⊎_elim}
use native.Mathlib.Numerals.{add-one}
use native.Mathlib.Omega.{arith}
use lib.ListN.{length, take}
use Rattle.scan.specs.Bytes.{bytes, is, is_digit, between}
use Rattle.scan.specs.Number.{sign, signed, letters, magnitude, read_number}
use Rattle.std.specs.Prelude.{Ok, Err}
use Rattle.scan.specs.Cursor.{Leaf}
use Rattle.letters.proofs.Spelled.{either}
use Rattle.promises.specs.Promises.{BadDigits}

-- a reader refuses r at its byte j, and n bytes are taken by then
abbrev Wrong : (List ℕ → Leaf) → List ℕ → ℕ → ℕ → Type 0
Wrong read r j n =
    ((v : ℕ) × (read (take j r ++ bytes "@") ≡ Ok (v, n + 1)))
    × ((j ≡ length r) ⊎ ((j < length r) × ((t : List ℕ) → read (take (suc j) r ++ t) ≡ Err n)))

-- the same of an answer of a reader that began with some bytes taken
abbrev Told : (List ℕ → Leaf) → ℕ → List ℕ → Leaf → Type 0
Told read before r (Ok (v, n)) = Unit {0}
Told read before r (Err n) = (j : ℕ) × (n ≡ before + j) × Wrong read r j n

-- one byte more in front, which the reader takes
behind :
    (read one : List ℕ → Leaf) (before less c : ℕ) (r : List ℕ) (x : Leaf)
    → less ≡ before + 1 → ((t : List ℕ) → one (c ∷ t) ≡ read t) → Told read less r x → Told one before (c ∷ r) x
behind read one before less c r (Ok (v, n)) l e h = tt
behind read one before less c r (Err n) l e (j, sum, ((v, whole), stop)) =
    (suc j, omega arith, ((v, e _ ∙ whole), ⊎_elim (λ end. inl (ap suc end)) (λ p. inr (omega (arith, p.0), λ t. e _ ∙ p.1 t)) stop))

letters-told : (neg : Bool) (n v : ℕ) (r : List ℕ) → Told (letters neg n v) n r (letters neg n v r)
unfolding letters
letters-told neg n v [] = (0, omega arith, ((signed neg v, refl), inl refl))
letters-told neg n v (c ∷ r) =
    let next = (v * 16 + (c - code "A")) % 2 ^ 32 in
    either (Told (letters neg n v) n (c ∷ r)) (is "@" c) _ _ (λ e. tt)
    (λ off. either (Told (letters neg n v) n (c ∷ r)) (between "A" "P" c) _ (Err n)
    (λ e. behind (letters neg (n + 1) next) (letters neg n v) n (n + 1) c r (letters neg (n + 1) next r) refl (λ t. rw (off, e)) (letters-told neg (n + 1) next r))
    (λ e. (0, omega arith, ((signed neg v, refl), inr (omega arith, λ t. rw (off, e))))))

-- or reads on as another from a byte on, and at an `@`
from :
    (read one : List ℕ → Leaf) (before c : ℕ) (r : List ℕ) (x : Leaf)
    → ((t : List ℕ) → one (c ∷ t) ≡ read (c ∷ t)) → one (bytes "@") ≡ read (bytes "@") → Told read before (c ∷ r) x → Told one before (c ∷ r) x
from read one before c r (Ok (v, n)) e at h = tt
from read one before c r (Err n) e at (j, sum, ((v, whole), stop)) = (j, sum, ((v, first j whole), ⊎_elim inl (λ p. inr (p.0, λ t. e _ ∙ p.1 t)) stop))
  where
    first : (j : ℕ) → read (take j (c ∷ r) ++ bytes "@") ≡ Ok (v, n + 1) → one (take j (c ∷ r) ++ bytes "@") ≡ Ok (v, n + 1)
    first zero w = at ∙ w
    first (suc j) w = e _ ∙ w

magnitude-told : (neg : Bool) (r : List ℕ) → Told (magnitude neg) (sign neg) r (magnitude neg r)
unfolding magnitude letters
magnitude-told neg [] = (0, omega arith, ((signed neg 0, refl), inl refl))
magnitude-told neg (c ∷ r) =
    either (Told (magnitude neg) (sign neg) (c ∷ r)) (is_digit c) _ (letters neg (sign neg) 0 (c ∷ r)) (λ e. tt)
    (λ off. from (letters neg (sign neg) 0) (magnitude neg) (sign neg) c r (letters neg (sign neg) 0 (c ∷ r)) (λ t. rw off) refl (letters-told neg (sign neg) 0 (c ∷ r)))

number-told : (r : List ℕ) → Told read_number 0 r (read_number r)
unfolding read_number magnitude letters
number-told [] = (0, omega arith, ((0, refl), inl refl))
number-told (c ∷ r) =
    either (Told read_number 0 (c ∷ r)) (is "?" c) (magnitude true r) (magnitude false (c ∷ r))
    (λ e. behind (magnitude true) read_number 0 1 c r (magnitude true r) refl (λ t. rw e) (magnitude-told true r))
    (λ off. from (magnitude false) read_number 0 c r (magnitude false (c ∷ r)) (λ t. rw off) refl (magnitude-told false (c ∷ r)))

pub bad-digits : BadDigits
bad-digits r n e = rw add-one (rw add-one at (closed (rw e at (number-told r))))
  where
    closed : Told read_number 0 r (Err n) → Wrong read_number r n n
    closed (j, sum, w) = let same : j ≡ n = omega arith in rw same at w
