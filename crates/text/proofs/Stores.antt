-- What the leaves of the writer store is what `Wrote` says. Assumes nothing.
use Rattle.std.proofs.Common.{◌≡◌, ℕ, suc, ◌+◌, ◌-◌, ◌<◌, ◌≤◌, List, [], ◌∷◌, ◌++◌, length, get_or, take, drop, set, sym, refl, ap, ◌∙◌, ap₂, append_assoc, append-nil, le_refl, add-one, arith, length-append, length-drop, drop_of_length-le, length-take-le, take_all, drop-cons, get_or-take, take-suc, drop-drop}
use native.Mathlib.Decide.{dec_le}
use Rattle.std.specs.Prelude.{min}
use Rattle.std.proofs.Math.Nat.{min-eq_left, min-eq_right}
use borrow.Rule.Slice.PartMut.{put_mid}
use lib.Seq.{set_split, set_at, take-append-add, append_snoc}
use Rattle.text.specs.Emit.{last_of, lit, cut, last_at, place_after, Wrote}
use Rattle.text.proofs.Cut.{length_cut, cut-self, cut_fits}
use Rattle.text.proofs.Seq.{place-fits, place-over}

-- one byte, within the buffer and at its end
pub wrote-byte : (b : List ℕ) (o x : ℕ) → o < length b → Wrote (lit (x ∷ [])) b o (set b o x) (o + 1)
unfolding lit
wrote-byte b o x h =
    let e : length (take o b ++ (x ∷ [])) ≡ o + 1 = length-append (take o b) (x ∷ []) ∙ ap (λ n. n + 1) (length-take-le o b (omega arith)) in
    let f : length (take o b ++ (x ∷ [])) ≤ length b = omega arith in
    let k : o + 1 ≤ length b = omega arith in
    record {
      buf = set_split b o x h ∙ sym (append_snoc (take o b) x (drop (suc o) b)) ∙ ap (λ n. (take o b ++ (x ∷ [])) ++ drop n b) (sym (add-one o) ∙ sym e) ∙ sym (cut_fits b (take o b ++ (x ∷ [])) f);
      out = sym (place-fits (length b) o 1 k);
    }

pub wrote-end : (b : List ℕ) (o x : ℕ) → o ≡ length b → Wrote (lit (x ∷ [])) b o b (o + 1)
unfolding lit
wrote-end b o x e =
    let k : length b < o + 1 = omega arith in
    let h : o ≤ length b = omega arith in
    record {
      buf = sym (ap (λ l. cut b (l ++ (x ∷ []))) (take_all o b (omega arith)) ∙ cut-self b (x ∷ []));
      out = ap (λ n. n + 1) e ∙ sym (place-over (length b) o 1 h k);
    }

-- the first i bytes of s over those of t
abbrev pub over : List ℕ → List ℕ → ℕ → List ℕ
over t s i = take i s ++ drop i t

pub over-more : (t s : List ℕ) (i : ℕ) → i < length t → i < length s → set (over t s i) i (get_or s i 0) ≡ over t s (i + 1)
over-more t s i h k =
    let e : length (take i s) ≡ i = length-take-le i s (omega arith) in
    ap (λ l. set (take i s ++ l) i (get_or s i 0)) (drop-cons t i 0 h) ∙ set_at (take i s) (get_or t i 0) (drop (suc i) t) (get_or s i 0) i e
    ∙ sym (append_snoc (take i s) (get_or s i 0) (drop (suc i) t)) ∙ ap (λ l. l ++ drop (suc i) t) (sym (take-suc s i 0 k)) ∙ ap (over t s) (sym (add-one i))

-- as many bytes of s as there is room for, over those of b
pub cut_min : (b s : List ℕ) (n : ℕ) → n ≡ min (length s) (length b) → over b s n ≡ cut b s
unfolding cut
cut_min b s n e = by (dec_le (length s) (length b))
  where
    by : Dec (length s ≤ length b) → take n s ++ drop n b ≡ take (length b) s ++ drop (length s) b
    by (yes h) = let q : n ≡ length s = e ∙ min-eq_left h in rw q (ap (λ l. l ++ drop (length s) b) (take_all (length s) s (le_refl (length s)) ∙ sym (take_all (length b) s h)))
    by (no h) = let q : n ≡ length b = e ∙ min-eq_right (omega (arith, h)) in rw q (ap (λ l. take (length b) s ++ l) (drop_of_length-le b (le_refl (length b)) ∙ sym (drop_of_length-le b (omega (arith, h)))))

-- a part from a on, with s stored over it, put back
part_cut : (b s : List ℕ) (a : ℕ) → a ≤ length b → put_mid a (length b - a) b (cut (take (length b - a) (drop a b)) s) ≡ cut b (take a b ++ s)
unfolding cut
part_cut b s a h =
    let e : take (length b - a) (drop a b) ≡ drop a b = take_all (length b - a) (drop a b) (omega (arith, length-drop a b)) in
    let f : drop (length b - a) (drop a b) ≡ [] = drop_of_length-le (drop a b) {i = length b - a} (omega (arith, length-drop a b)) in
    ap₂ (λ x y. take a b ++ (cut x s ++ y)) e f ∙ ap (λ l. take a b ++ l) (append-nil (cut (drop a b) s)) ∙ sym (append_assoc (take a b) (take (length (drop a b)) s) (drop (length s) (drop a b)))
    ∙ ap₂ ◌++◌ (sym (take-append-add (take a b) s (length (drop a b))) ∙ ap (λ n. take n (take a b ++ s)) p) (drop-drop (length s) a b ∙ ap (λ n. drop n b) q)
  where
    p : length (take a b) + length (drop a b) ≡ length b
    p = omega (arith, length-take-le a b h, length-drop a b)

    q : a + length s ≡ length (take a b ++ s)
    q = omega (arith, length-take-le a b h, length-append (take a b) s)

-- the part from o on with s stored over it, and the place that `advance` then computes
pub wrote-part : (b : List ℕ) (o : ℕ) (s : List ℕ) {p : List ℕ} {n r : ℕ} → o ≤ length b → p ≡ cut (take (length b - o) (drop o b)) s → n ≡ length s → r ≡ place_after (length (put_mid o (length b - o) b p)) o n → Wrote (lit s) b o (put_mid o (length b - o) b p) r
unfolding lit
wrote-part b o s {p} h e f g =
    let q : put_mid o (length b - o) b p ≡ cut b (take o b ++ s) = ap (put_mid o (length b - o) b) e ∙ part_cut b s o h in
    record { buf = q; out = g ∙ ap₂ (λ m. place_after m o) (ap length q ∙ length_cut b (take o b ++ s)) f }

last_cons : (l x : ℕ) (s : List ℕ) → last_of l (x ∷ s) ≡ get_or (x ∷ s) (length s) 0
unfolding last_of
last_cons l x [] = refl
last_cons l x (y ∷ s) = last_cons x y s

last-at : (l : ℕ) (s : List ℕ) → (length s ≡ 0 → ⊥) → last_of l s ≡ get_or s (length s - 1) 0
last-at l [] n = absurd (n refl)
last-at l (x ∷ s) n = last_cons l x s ∙ ap (λ i. get_or (x ∷ s) i 0) same
  where
    same : length s ≡ length (x ∷ s) - 1
    same = omega arith

-- the byte before place o
pub last-is : (b : List ℕ) (o : ℕ) → (o ≡ 0 → ⊥) → o ≤ length b → get_or b (o - 1) 0 ≡ last_at b o
unfolding last_at
last-is b o z h =
    let e : length (take o b) ≡ o = length-take-le o b h in
    sym (last-at 256 (take o b) (λ q. omega arith) ∙ ap (λ n. get_or (take o b) (n - 1) 0) e ∙ get_or-take o b (o - 1) 0 (omega arith))

-- the end up to which `last_byte` looks: within the buffer, and as good as o
abbrev pub Ends : List ℕ → ℕ → ℕ → Type 0
Ends b o e = (e ≤ length b) × (last_at b e ≡ last_at b o)

ends-within : (b : List ℕ) (o e : ℕ) → o ≤ length b → e ≡ o → Ends b o e
ends-within b o e h q = (omega arith, ap (last_at b) q)

ends-past : (b : List ℕ) (o e : ℕ) → length b < o → e ≡ length b → Ends b o e
unfolding last_at
ends-past b o e h q = (omega arith, ap (last_of 256) (take_all e b (omega arith) ∙ sym (take_all o b (omega arith))))

pub ends-min : (b : List ℕ) (o e : ℕ) → e ≡ min o (length b) → Ends b o e
ends-min b o e q = by (dec_le o (length b))
  where
    by : Dec (o ≤ length b) → Ends b o e
    by (yes h) = ends-within b o e h (q ∙ min-eq_left h)
    by (no h) = ends-past b o e (omega (arith, h)) (q ∙ min-eq_right (omega (arith, h)))
