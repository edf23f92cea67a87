-- Steps of the numbers' loop, and that letters and a guard's digits are its digits. Assumes nothing.
use Prim.Native.Nat.{ℕ, zero, suc, ◌+◌, ◌*◌, ◌-◌, ◌%◌, ◌^◌, ◌≤◌, ◌<◌}
use mathlib.Core.Path.{◌≡◌, refl, sym, ap, ◌∙◌}
use mathlib.Core.Bool.{Bool, true, false}
use mathlib.Core.List.{List, [], ◌∷◌}
use native.Mathlib.Omega.{arith}
use lib.Dec.{leb, ltb, eqb}
use lib.ListN.{length, drop}
use lib.Seq.{drop-drop}
use borrow.Author.Tests.{eq-eqb, ne_eqb, le-leb, lt-leb, leb-true, ltb-true, ltb-false}
use Rattle.std.specs.Prelude.{Option, Some, None, Ok, Err}
use Rattle.scan.specs.Bytes.{pick, is, is_digit}
use Rattle.scan.specs.Cursor.{Leaf, get_byte}
use native.Mathlib.Nat.{add-zero}
use Rattle.scan.specs.Number.{letters, sign, signed, magnitude, read_number, digit_in, with_digit, digits, guard_digits}
use Rattle.scan.proofs.Laws.{got, ended}

-- a byte that stands at a place is inside
pub inside : (s : List ℕ) (at : ℕ) {c : ℕ} → get_byte (drop at s) ≡ Some c → at < length s
unfolding get_byte
inside [] zero e = cc
inside [] (suc at) e = cc
inside (b ∷ s) zero e = omega arith
inside (b ∷ s) (suc at) e = omega (arith, inside s at e)

module _ (low base n v : ℕ) (s : List ℕ) (i : ℕ) where
  pub digits-end : get_byte (drop i s) ≡ None → digits low base n v (drop i s) ≡ Err n
  unfolding digits
  digits-end e = rw (ended _ e)

  module _ {c : ℕ} (e : get_byte (drop i s) ≡ Some c) where
    pub digits-done : c ≡ 64 → digits low base n v (drop i s) ≡ Ok (v, n + 1)
    unfolding digits
    digits-done h = rw (got _ e, eq-eqb _ _ h)

    pub digits-bad : (c ≡ 64 → ⊥) → digit_in low base c ≡ None → digits low base n v (drop i s) ≡ Err n
    unfolding digits
    digits-bad off h = rw (got _ e, ne_eqb c 64 off, h)

    pub digits-more :
        {d : ℕ} → (c ≡ 64 → ⊥) → digit_in low base c ≡ Some d
        → digits low base n v (drop i s) ≡ digits low base (n + 1) ((v * base + d) % 2 ^ 32) (drop (i + 1) s)
    unfolding digits
    digits-more off h = rw (got _ e, ne_eqb c 64 off, h, drop-drop 1 i s)

-- where `@` is no digit, no digit is `@`
pub no-end : (low base : ℕ) {c d : ℕ} → digit_in low base 64 ≡ None → digit_in low base c ≡ Some d → c ≡ 64 → ⊥
no-end low base {c} {d} end is e = let z : ◌≡◌ {A = Option ℕ} (Some d) None = sym is ∙ ap (digit_in low base) e ∙ end in cc

-- a range of bytes, by its highest byte and by the number of its bytes
test_is :
    (low base top c : ℕ) → top + 1 ≡ low + base → low ≤ c → (x : Bool) → ltb (c - low) base ≡ x → leb c top ≡ x
test_is low base top c h l true e = le-leb c top (omega (arith, ltb-true (c - low) base e))
test_is low base top c h l false e = lt-leb c top (omega (arith, ltb-false (c - low) base e))

chosen :
    (a b b' : Bool) (d : ℕ) (x y : Leaf) (f : ℕ → Leaf) → (a ≡ true → b ≡ b') → x ≡ f d
    → pick (pick a b false) x y ≡ with_digit (pick a (pick b' (Some d) None) None) f y
chosen true true true d x y f same e = e
chosen true true false d x y f same e = let z = same refl in cc
chosen true false true d x y f same e = let z = same refl in cc
chosen true false false d x y f same e = refl
chosen false b b' d x y f same e = refl

ranged :
    (low base top c : ℕ) (x y : Leaf) (f : ℕ → Leaf) → top + 1 ≡ low + base → x ≡ f (c - low)
    → pick (pick (leb low c) (leb c top) false) x y ≡ with_digit (digit_in low base c) f y
ranged low base top c x y f h e =
    chosen (leb low c) (leb c top) (ltb (c - low) base) (c - low) x y f (λ l. test_is low base top c h (leb-true low c l) (ltb (c - low) base) refl) e

pub guard_is : (n v : ℕ) (r : List ℕ) → guard_digits n v r ≡ digits 48 10 n v r
unfolding guard_digits digits
guard_is n v [] = refl
guard_is n v (c ∷ r) =
    ap (pick (is "@" c) (Ok (v, n + 1)))
    (ranged 48 10 57 c (guard_digits (n + 1) ((v * 10 + (c - 48)) % 2 ^ 32) r) (Err n) (λ d. digits 48 10 (n + 1) ((v * 10 + d) % 2 ^ 32) r) (omega arith)
    (guard_is (n + 1) ((v * 10 + (c - 48)) % 2 ^ 32) r))

-- the letters' value is negated at their end
abbrev pub signing : Bool → Leaf → Leaf
signing neg (Ok (v, n)) = Ok (signed neg v, n)
signing neg (Err n) = Err n

signing-with : (neg : Bool) (o : Option ℕ) (f : ℕ → Leaf) (y : Leaf) → with_digit o (λ d. signing neg (f d)) (signing neg y) ≡ signing neg (with_digit o f y)
signing-with neg (Some d) f y = refl
signing-with neg None f y = refl

signing-pick : (neg b : Bool) (x y : Leaf) → pick b (signing neg x) (signing neg y) ≡ signing neg (pick b x y)
signing-pick neg true x y = refl
signing-pick neg false x y = refl

pub letters_are : (neg : Bool) (n v : ℕ) (r : List ℕ) → letters neg n v r ≡ signing neg (digits 65 16 n v r)
unfolding letters digits
letters_are neg n v [] = refl
letters_are neg n v (c ∷ r) =
    let f : ℕ → Leaf = λ d. digits 65 16 (n + 1) ((v * 16 + d) % 2 ^ 32) r in
    ap (pick (is "@" c) (Ok (signed neg v, n + 1)))
    (ranged 65 16 80 c (letters neg (n + 1) ((v * 16 + (c - 65)) % 2 ^ 32) r) (Err n) (λ d. signing neg (f d)) (omega arith)
    (letters_are neg (n + 1) ((v * 16 + (c - 65)) % 2 ^ 32) r) ∙ signing-with neg (digit_in 65 16 c) f (Err n))
    ∙ signing-pick neg (is "@" c) (Ok (v, n + 1)) (with_digit (digit_in 65 16 c) f (Err n))

-- what is no digit begins letters; a `?` stands before a magnitude or there is none
pub magnitude-letters :
    (neg : Bool) (r : List ℕ) {c : ℕ} → get_byte r ≡ Some c → is_digit c ≡ false → magnitude neg r ≡ signing neg (digits 65 16 (sign neg) 0 r)
unfolding magnitude get_byte
magnitude-letters neg [] e h = cc
magnitude-letters neg (b ∷ r) {c} e h =
    let same : b ≡ c = cc in
    let off : is_digit b ≡ false = ap is_digit same ∙ h in
    rw off (letters_are neg (sign neg) 0 (b ∷ r))

number-is : (r : List ℕ) {c : ℕ} → get_byte r ≡ Some c → pick (eqb c 63) (magnitude true (drop 1 r)) (magnitude false r) ≡ read_number r
unfolding read_number get_byte
number-is [] e = cc
number-is (b ∷ r) {c} e = let same : c ≡ b = cc in ap (λ x. pick (eqb x 63) (magnitude true r) (magnitude false (b ∷ r))) same

behind_sign :
    (s : List ℕ) (at : ℕ) (neg : Bool) → magnitude neg (drop (at + sign neg) s) ≡ pick neg (magnitude true (drop 1 (drop at s))) (magnitude false (drop at s))
behind_sign s at true = ap (magnitude true) (sym (drop-drop 1 at s))
behind_sign s at false = ap (λ n. magnitude false (drop n s)) (add-zero at)

pub number-from : (s : List ℕ) (at : ℕ) {c : ℕ} → get_byte (drop at s) ≡ Some c → magnitude (eqb c 63) (drop (at + sign (eqb c 63)) s) ≡ read_number (drop at s)
number-from s at {c} e = behind_sign s at (eqb c 63) ∙ number-is (drop at s) e

pub sign-small : (neg : Bool) → sign neg ≤ 1
sign-small true = omega arith
sign-small false = omega arith
