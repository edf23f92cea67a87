-- One digit more, and a number's digits as the part of a buffer that holds them. Assumes nothing.
use Rattle.std.proofs.Common.{◌≡◌, ℕ, zero, suc, ◌+◌, ◌-◌, ◌/◌, ◌%◌, ◌^◌, ◌<◌, ◌≤◌, List, [], ◌∷◌, length, take, drop, set, sym, ap, ◌∙◌, sub-one, arith, length-drop, length-set, take_all, drop-cons, get_or-set_same, drop-set-lt, le-ltb, lt-ltb}
use Rattle.text.specs.Emit.{Wrote, lit, ◌⨾◌}
use Rattle.text.specs.Decimal.{digits, unsigned, decimal}
use Rattle.text.proofs.Seq.{wrote-seq}

pub digits-none : (n : ℕ) (acc : List ℕ) (i : ℕ) → i ≡ 0 → digits i n acc ≡ acc
unfolding digits
digits-none n acc i e = rw e

pub digits_last : (i n : ℕ) (acc : List ℕ) → 0 < i → n < 10 → digits i n acc ≡ (48 + n % 10) ∷ acc
unfolding digits
digits_last zero n acc h k = absurd (omega arith)
digits_last (suc f) n acc h k = rw (lt-ltb n 10 k)

pub digits_more : (i n : ℕ) (acc : List ℕ) → 0 < i → 10 ≤ n → digits i n acc ≡ digits (i - 1) (n / 10) ((48 + n % 10) ∷ acc)
unfolding digits
digits_more zero n acc h k = absurd (omega arith)
digits_more (suc f) n acc h k = rw (le-ltb n 10 k) (ap (λ j. digits j (n / 10) ((48 + n % 10) ∷ acc)) (sym (sub-one (suc f))))

-- a store just before what stands from i on
pub drop-store : (b : List ℕ) (i x : ℕ) → 0 < i → i ≤ length b → drop (i - 1) (set b (i - 1) x) ≡ x ∷ drop i b
drop-store b i x h k =
    let e : suc (i - 1) ≡ i = omega arith in
    let q : i - 1 < length b = omega arith in
    drop-cons (set b (i - 1) x) (i - 1) 0 (omega (arith, length-set b (i - 1) x)) ∙ ap (λ y. y ∷ drop (suc (i - 1)) (set b (i - 1) x)) (get_or-set_same b (i - 1) x 0 q)
    ∙ ap (λ l. x ∷ l) (drop-set-lt (suc (i - 1)) b (i - 1) x (omega arith) ∙ ap (λ j. drop j b) e)

-- the digits, as the part of a buffer of k bytes from i on
module _ (k : ℕ) (b : List ℕ) (i n : ℕ) (e : length b ≡ k) (d : drop i b ≡ digits k n []) where
  pub part-is : take (k - i) (drop i b) ≡ digits k n []
  part-is = take_all (k - i) (drop i b) (omega (arith, length-drop i b)) ∙ d

  pub part_length : k - i ≡ length (digits k n [])
  part_length = ap (λ m. m - i) (sym e) ∙ sym (length-drop i b) ∙ ap length d

-- the sign
module _ {b b' : List ℕ} {o o' : ℕ} (n : ℕ) where
  pub wrote-low : n < 2 ^ 31 → Wrote (lit (unsigned n)) b o b' o' → Wrote (lit (decimal n)) b o b' o'
  unfolding decimal
  wrote-low h w = rw (lt-ltb _ _ h) w

  pub wrote-high : {b₁ : List ℕ} {o₁ : ℕ} → 2 ^ 31 ≤ n → Wrote (lit (45 ∷ [])) b o b₁ o₁ → Wrote (lit (unsigned (2 ^ 32 - n))) b₁ o₁ b' o' → Wrote (lit (decimal n)) b o b' o'
  unfolding decimal lit ◌⨾◌
  wrote-high h v w = rw (le-ltb n (2 ^ 31) h) (wrote-seq v w)
