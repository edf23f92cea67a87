-- Of all 2^32 flag words exactly those within 0x01F01EE6 are known: a run of bits is 0 exactly where each of its bits is. Assumes nothing.
use Prim.Native.Nat.{ℕ, zero, suc, ◌+◌, ◌-◌, ◌*◌, ◌/◌, ◌%◌, ◌^◌, ◌≤◌, ◌<◌}
use mathlib.Core.Bool.{Bool, true, false}
use mathlib.Core.Path.{◌≡◌, refl, sym, ap, ◌∙◌}
use mathlib.Core.List.{List, [], ◌∷◌, map}
use native.Mathlib.Decide.{dec_lt}
use native.Mathlib.Nat.{pow-suc, mul_comm, div-div-eq-div-mul, div-eq_of_lt, lt_of_lt_of_le, zero-lt-suc, mod-lt}
use native.Mathlib.Omega.{arith}
use borrow.Author.Tests.{eqb-true, eq-eqb}
use lib.Arith.{mod-mul}
use lib.Pow.{pow_pos, pow_mono, shr-shr}
use Rattle.scan.specs.Bytes.{pick}
use Rattle.scan.proofs.Laws.{range, on-range}
use Rattle.gates.specs.Gates.{lacks, known_flags}
use Rattle.promises.specs.Promises.{bit, KnownWords}

-- the lowest bit, and those above it
halves : (x k : ℕ) → x % 2 ^ suc k ≡ (x / 2 % 2 ^ k) * 2 + x % 2
halves x k = ap (λ p. x % p) (pow-suc 2 k) ∙ mod-mul x (pow_pos k) (zero-lt-suc 1)

above : (x j : ℕ) → x / 2 ^ suc j ≡ x / 2 / 2 ^ j
above x j = sym (div-div-eq-div-mul x 2 (2 ^ j) ∙ ap (λ p. x / p) (mul_comm 2 (2 ^ j) ∙ sym (pow-suc 2 j)))

none : (k x j : ℕ) → x % 2 ^ k ≡ 0 → j < k → bit x j ≡ 0
none zero x j e h = absurd (omega arith)
none (suc k) x zero e h = omega (arith, halves x k)
none (suc k) x (suc j) e h = ap (λ y. y % 2) (above x j) ∙ none k (x / 2) j (omega (arith, halves x k)) (omega arith)

all_none : (k x : ℕ) → ((j : ℕ) → j < k → bit x j ≡ 0) → x % 2 ^ k ≡ 0
all_none zero x z = omega arith
all_none (suc k) x z =
    let low : bit x 0 ≡ 0 = z 0 (omega arith) in
    halves x k ∙ omega (arith, low, all_none k (x / 2) (λ j h. ap (λ y. y % 2) (sym (above x j)) ∙ z (suc j) (omega arith)))

-- the same of count bits from bit low on
module _ (x low count : ℕ) where
  lacked : lacks x low count ≡ true → (i : ℕ) → low ≤ i → i < low + count → bit x i ≡ 0
  lacked e i l h =
      let sum : low + (i - low) ≡ i = omega arith in
      ap (bit x) (sym sum) ∙ ap (λ y. y % 2) (sym (shr-shr x low (i - low))) ∙ none count (x / 2 ^ low) (i - low) (eqb-true _ 0 e) (omega arith)

  lacking : ((i : ℕ) → low ≤ i → i < low + count → bit x i ≡ 0) → lacks x low count ≡ true
  lacking z = eq-eqb _ 0 (all_none count (x / 2 ^ low) (λ j h. ap (λ y. y % 2) (shr-shr x low j) ∙ z (low + j) (omega arith) (omega arith)))

-- the known bits
abbrev mask : ℕ
mask = 32513766

known : (low n : ℕ) → map (bit mask) (range low n) ≡ map (λ i. 1) (range low n) → (i : ℕ) → low ≤ i → i < low + n → bit mask i ≡ 1
known low n e = on-range low n (bit mask) (λ i. 1) e

not-both : (a b : ℕ) {A : Type 0} → a ≡ 0 → a ≡ 1 → A
not-both a b p q = absurd (omega arith)

module _ (f : ℕ) where
  abbrev In : ℕ → Type 0
  In i = bit f i ≡ 1 → bit mask i ≡ 1

  -- what holds in each of some runs of bits holds in all of them
  abbrev Runs : ℕ → List ℕ → Type 0
  Runs low [] = Unit {0}
  Runs low (n ∷ ns) = ((i : ℕ) → low ≤ i → i < low + n → In i) × Runs (low + n) ns

  abbrev end : ℕ → List ℕ → ℕ
  end low [] = low
  end low (n ∷ ns) = end (low + n) ns

  by_runs : (low : ℕ) (ns : List ℕ) → Runs low ns → (i : ℕ) → low ≤ i → i < end low ns → In i
  by_runs low [] r i l h = absurd (omega arith)
  by_runs low (n ∷ ns) r i l h = go (dec_lt i (low + n)) (λ p. by_runs (low + n) ns r.1 i p h)
    where
      go : Dec (i < low + n) → (low + n ≤ i → In i) → In i
      go (yes p) k = r.0 i l p
      go (no p) k = k (omega (arith, p))

  unset : (low count : ℕ) → lacks f low count ≡ true → (i : ℕ) → low ≤ i → i < low + count → In i
  unset low count e i l h = λ one. not-both (bit f i) 0 (lacked f low count e i l h) one

  held : (a b c d e : Bool) → pick a (pick b (pick c (pick d e false) false) false) false ≡ true → (a ≡ true) × (b ≡ true) × (c ≡ true) × (d ≡ true) × (e ≡ true)
  held true true true true e h = (refl, refl, refl, refl, h)
  held true true true false e h = (cc, cc, cc, cc, cc)
  held true true false d e h = (cc, cc, cc, cc, cc)
  held true false c d e h = (cc, cc, cc, cc, cc)
  held false b c d e h = (cc, cc, cc, cc, cc)

  inside : known_flags f ≡ true → (i : ℕ) → i < 32 → In i
  unfolding known_flags
  inside k i h =
      let r = held (lacks f 0 1) (lacks f 3 2) (lacks f 8 1) (lacks f 13 7) (lacks f 25 7) k in
      by_runs 0 (1 ∷ 2 ∷ 2 ∷ 3 ∷ 1 ∷ 4 ∷ 7 ∷ 5 ∷ 7 ∷ [])
      (unset 0 1 r.0, ((λ i l h e. known 1 2 refl i l h), (unset 3 2 r.1, ((λ i l h e. known 5 3 refl i l h), (unset 8 1 r.2, ((λ i l h e. known 9 4 refl i l h), (unset 13 7 r.3, ((λ i l h e. known 20 5 refl i l h), (unset 25 7 r.4, tt)))))))))
      i (omega arith) h

  -- past 32 bits there is none
  past : f < 2 ^ 32 → (i : ℕ) → 32 ≤ i → bit f i ≡ 0
  past l i h = ap (λ y. y % 2) (div-eq_of_lt (lt_of_lt_of_le l (pow_mono h)))

  zero_bit : (i : ℕ) → In i → bit mask i ≡ 0 → bit f i ≡ 0
  zero_bit i k z = go (dec_lt (bit f i) 1)
    where
      go : Dec (bit f i < 1) → bit f i ≡ 0
      go (yes p) = omega arith
      go (no p) = let one : bit f i ≡ 1 = omega (arith, p, mod-lt (f / 2 ^ i) (zero-lt-suc 1)) in not-both (bit mask i) 0 z (k one)

  outside : ((i : ℕ) → In i) → (low count : ℕ) → lacks mask low count ≡ true → lacks f low count ≡ true
  outside k low count e = lacking f low count (λ i l h. zero_bit i (k i) (lacked mask low count e i l h))

pub known-words : KnownWords
unfolding known_flags
known-words f l =
    ((λ k i e. go k i e (dec_lt i 32)), (λ k. rw (outside f k 0 1 refl, outside f k 3 2 refl, outside f k 8 1 refl, outside f k 13 7 refl, outside f k 25 7 refl)))
  where
    go : known_flags f ≡ true → (i : ℕ) → bit f i ≡ 1 → Dec (i < 32) → bit mask i ≡ 1
    go k i e (yes h) = inside f k i h e
    go k i e (no n) = not-both (bit f i) 0 (past f l i (omega (arith, n))) e
