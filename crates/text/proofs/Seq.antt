-- One writer after another writes the one text after the other. Assumes nothing.
--     wrote_none, wrote-full     nothing is written; the text did not fit before
--     wrote-past, has_room       what a test for that says
--     wrote-seq                  a text and then another
--     wrote-same, wrote-is       the same text by another name
--     writes-..                  the same of a writer's text
--     seq-assoc, seq-none, none-seq
use Rattle.std.proofs.Common.{IsTrue, ◌↔◌, Bool, true, false, ◌≡◌, ℕ, ◌+◌, ◌<◌, ◌≤◌, List, [], ◌∷◌, ◌++◌, length, take, drop, sym, refl, ap, ◌∙◌, ap₂, append_assoc, append-nil, add-zero, le_of_lt, arith, length-append, take-append-drop, length-take-le, take_all, le-ltb, lt-ltb, le-leb}
use mathlib.Core.Path.{fun_ext}
use native.Mathlib.Decide.{dec_le, dec_lt}
use borrow.Author.Tests.{lt-leb}
use Rattle.text.specs.Emit.{Text, last_of, none, when, ◌⨾◌, cut, last_at, place_after, Wrote}
use Rattle.text.proofs.Cut.{length_cut, take-cut, cut-more, cut-self, cut_fits, cut-cut}

pub last_of-append : (l : ℕ) (s t : List ℕ) → last_of l (s ++ t) ≡ last_of (last_of l s) t
unfolding last_of
last_of-append l [] t = refl
last_of-append l (x ∷ s) t = last_of-append x s t

-- the place after n bytes, in the three cases
pub place-full : (m o n : ℕ) → m < o → place_after m o n ≡ o
unfolding place_after
place-full m o n h = rw (lt-ltb _ _ h)

pub place-fits : (m o n : ℕ) → o + n ≤ m → place_after m o n ≡ o + n
unfolding place_after
place-fits m o n h = rw (le-ltb m o (omega arith), le-leb _ _ h)

pub place-over : (m o n : ℕ) → o ≤ m → m < o + n → place_after m o n ≡ m + 1
unfolding place_after
place-over m o n h k = rw (le-ltb m o h, lt-leb _ _ k)

pub cut-full : (b t : List ℕ) (n : ℕ) → length b < n → cut b (take n b ++ t) ≡ b
cut-full b t n h = rw (take_all n b (le_of_lt h)) (cut-self b t)

pub wrote-full : (T : Text) (b : List ℕ) (o : ℕ) → length b < o → Wrote T b o b o
wrote-full T b o h = record { buf = sym (cut-full b (T (last_at b o)) o h); out = sym (place-full (length b) o (length (T (last_at b o))) h) }

-- a test for what did not fit, passed and failed
pub wrote-past : (T : Text) {b : List ℕ} {o : ℕ} → (IsTrue true ↔ (length b < o)) → Wrote T b o b o
wrote-past T e = wrote-full T _ _ (e.0 refl)

pub has_room : {n o : ℕ} → (IsTrue false ↔ (n < o)) → o ≤ n
has_room {n} {o} e = by (dec_le o n)
  where
    by : Dec (o ≤ n) → o ≤ n
    by (yes h) = h
    by (no h) = let x : false ≡ true = e.1 (omega (arith, h)) in cc x

pub wrote_none : (b : List ℕ) (o : ℕ) → Wrote none b o b o
unfolding none
wrote_none b o = by (dec_lt (length b) o)
  where
    by : Dec (length b < o) → Wrote none b o b o
    by (yes h) = wrote-full none b o h
    by (no n) =
        let h : o ≤ length b = omega arith in
        let k : o + 0 ≤ length b = omega arith in
        let e : length (take o b) ≡ o = length-take-le o b h in
        let f : length (take o b) ≤ length b = omega arith in
        record {
          buf = sym (ap (cut b) (append-nil (take o b)) ∙ cut_fits b (take o b) f ∙ ap (λ j. take o b ++ drop j b) e ∙ take-append-drop o b);
          out = sym (place-fits (length b) o 0 k ∙ add-zero o);
        }

module _ (T₁ T₂ : Text) (b : List ℕ) (o : ℕ) where
  abbrev t₁ : List ℕ
  t₁ = T₁ (last_at b o)

  abbrev u : List ℕ
  u = T₂ (last_of (last_at b o) (T₁ (last_at b o)))

  abbrev w : List ℕ
  w = take o b ++ t₁

  abbrev o₁ : ℕ
  o₁ = place_after (length b) o (length t₁)

  -- the buffer, and the place, after both
  abbrev Both : Type 0
  Both = (cut (cut b w) (take o₁ (cut b w) ++ T₂ (last_at (cut b w) o₁)) ≡ cut b (take o b ++ (t₁ ++ u)))
      × (place_after (length (cut b w)) o₁ (length (T₂ (last_at (cut b w) o₁))) ≡ place_after (length b) o (length (t₁ ++ u)))

  both-full : length b < o → Both
  both-full h =
      rw (cut-full b t₁ o h, place-full (length b) o (length t₁) h)
      (cut-full b (T₂ (last_at b o)) o h ∙ sym (cut-full b (t₁ ++ u) o h), place-full (length b) o _ h ∙ sym (place-full (length b) o _ h))

  width : o ≤ length b → length w ≡ o + length t₁
  width h = length-append (take o b) t₁ ∙ ap (λ n. n + length t₁) (length-take-le o b h)

  both-fits : o + length t₁ ≤ length b → Both
  unfolding last_at
  both-fits h =
      let e : length w ≡ o + length t₁ = width (omega arith) in
      let f : length w ≤ length b = omega arith in
      rw (place-fits (length b) o (length t₁) h) (
        ap (λ x. cut (cut b w) (take (o + length t₁) (cut b w) ++ T₂ x)) (tail e f) ∙ ap (λ n. cut (cut b w) (take n (cut b w) ++ u)) (sym e) ∙ ap (λ l. cut (cut b w) (l ++ u)) (take-cut b w f) ∙ cut-cut b w u f ∙ ap (cut b) (append_assoc (take o b) t₁ u),
        ap (λ x. place_after (length (cut b w)) (o + length t₁) (length (T₂ x))) (tail e f) ∙ ap (λ n. place_after n (o + length t₁) (length u)) (length_cut b w) ∙ after (dec_le (o + length t₁ + length u) (length b)),
      )
    where
      tail : length w ≡ o + length t₁ → length w ≤ length b → last_at (cut b w) (o + length t₁) ≡ last_of (last_at b o) t₁
      tail e f = ap (λ n. last_of 256 (take n (cut b w))) (sym e) ∙ ap (last_of 256) (take-cut b w f) ∙ last_of-append 256 (take o b) t₁

      after : Dec (o + length t₁ + length u ≤ length b) → place_after (length b) (o + length t₁) (length u) ≡ place_after (length b) o (length (t₁ ++ u))
      after (yes k) = place-fits (length b) (o + length t₁) (length u) k ∙ sum ∙ sym (place-fits (length b) o (length (t₁ ++ u)) (omega (arith, length-append t₁ u)))
        where
          sum : o + length t₁ + length u ≡ o + length (t₁ ++ u)
          sum = omega (arith, length-append t₁ u)
      after (no k) = place-over (length b) (o + length t₁) (length u) h (omega (arith, k)) ∙ sym (place-over (length b) o (length (t₁ ++ u)) (omega arith) (omega (arith, k, length-append t₁ u)))

  both-over : o ≤ length b → length b < o + length t₁ → Both
  both-over h k =
      let e : length w ≡ o + length t₁ = width h in
      let f : length b ≤ length w = omega arith in
      let g : length (cut b w) < length b + 1 = omega (arith, length_cut b w) in
      rw (place-over (length b) o (length t₁) h k) (
        cut-full (cut b w) (T₂ (last_at (cut b w) (length b + 1))) (length b + 1) g ∙ sym (cut-more b w u f) ∙ ap (cut b) (append_assoc (take o b) t₁ u),
        place-full (length (cut b w)) (length b + 1) _ g ∙ sym (place-over (length b) o (length (t₁ ++ u)) h (omega (arith, length-append t₁ u))),
      )

  both : Both
  both = by (dec_lt (length b) o) (dec_le (o + length t₁) (length b))
    where
      by : Dec (length b < o) → Dec (o + length t₁ ≤ length b) → Both
      by (yes h) _ = both-full h
      by (no n) (yes h) = both-fits h
      by (no n) (no m) = both-over (omega (arith, n)) (omega (arith, m))

pub wrote-seq : {T₁ T₂ : Text} {b b₁ b₂ : List ℕ} {o o₁ o₂ : ℕ} → Wrote T₁ b o b₁ o₁ → Wrote T₂ b₁ o₁ b₂ o₂ → Wrote (T₁ ⨾ T₂) b o b₂ o₂
unfolding ◌⨾◌
wrote-seq {T₁} {T₂} {b} {b₁} {b₂} {o} {o₁} {o₂} v w = record {
  buf = w.buf ∙ ap₂ (λ x y. cut x (take y x ++ T₂ (last_at x y))) v.buf v.out ∙ (both T₁ T₂ b o).0;
  out = w.out ∙ ap₂ (λ x y. place_after (length x) y (length (T₂ (last_at x y)))) v.buf v.out ∙ (both T₁ T₂ b o).1;
}

-- only the text at the last byte matters
pub wrote-same : {T T' : Text} {b b₁ : List ℕ} {o o₁ : ℕ} → T (last_at b o) ≡ T' (last_at b o) → Wrote T b o b₁ o₁ → Wrote T' b o b₁ o₁
wrote-same {b = b} {o = o} e w = record { buf = w.buf ∙ ap (λ t. cut b (take o b ++ t)) e; out = w.out ∙ ap (λ t. place_after (length b) o (length t)) e }

pub wrote-is : {T T' : Text} {b b₁ : List ℕ} {o o₁ : ℕ} → T ≡ T' → Wrote T' b o b₁ o₁ → Wrote T b o b₁ o₁
wrote-is {b = b} {o = o} e w = wrote-same (ap (λ f. f (last_at b o)) (sym e)) w

pub seq-assoc : (f g h : Text) → (f ⨾ g) ⨾ h ≡ f ⨾ (g ⨾ h)
unfolding ◌⨾◌
seq-assoc f g h = fun_ext (λ l. append_assoc (f l) (g (last_of l (f l))) _ ∙ ap (λ x. f l ++ (g (last_of l (f l)) ++ h x)) (last_of-append l (f l) (g (last_of l (f l)))))

pub seq-none : (f : Text) → f ⨾ none ≡ f
unfolding ◌⨾◌ none
seq-none f = fun_ext (λ l. append-nil (f l))

pub none-seq : (f : Text) → none ⨾ f ≡ f
unfolding ◌⨾◌ none last_of
none-seq f = fun_ext (λ l. refl)

-- the same, where the bytes stay those that were lent, by their name g
module _ {G : Type 0} {b : List ℕ} {o : ℕ} {g : G} where
  pub writes-none : Wrote none b o b o × (g ≡ g)
  writes-none = (wrote_none _ _, refl)

  pub writes-past : {T : Text} → (IsTrue true ↔ (length b < o)) → Wrote T b o b o × (g ≡ g)
  writes-past {T} e = (wrote-past T e, refl)

  module _ {b₁ : List ℕ} {o₁ : ℕ} {g₁ : G} where
    pub writes-when : {t t' : Bool} (T : Text) → t ≡ t' → Wrote (when t T) b o b₁ o₁ × (g₁ ≡ g) → Wrote (when t' T) b o b₁ o₁ × (g₁ ≡ g)
    writes-when T e v = rw (sym e) v

    pub writes-same : {T T' : Text} → T (last_at b o) ≡ T' (last_at b o) → Wrote T b o b₁ o₁ × (g₁ ≡ g) → Wrote T' b o b₁ o₁ × (g₁ ≡ g)
    writes-same e v = (wrote-same e v.0, v.1)

    pub writes-is : {T T' : Text} → T ≡ T' → Wrote T' b o b₁ o₁ × (g₁ ≡ g) → Wrote T b o b₁ o₁ × (g₁ ≡ g)
    writes-is e v = (wrote-is e v.0, v.1)

    pub writes-seq : {T₁ T₂ : Text} {b₂ : List ℕ} {o₂ : ℕ} {g₂ : G} → Wrote T₁ b o b₁ o₁ × (g₁ ≡ g) → Wrote T₂ b₁ o₁ b₂ o₂ × (g₂ ≡ g₁) → Wrote (T₁ ⨾ T₂) b o b₂ o₂ × (g₂ ≡ g)
    writes-seq v u = (wrote-seq v.0 u.0, u.1 ∙ v.1)
