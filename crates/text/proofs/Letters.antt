-- The words by their letters: each rule is one that antt computes over all words. Assumes nothing.
use Rattle.std.proofs.Common.{◌≡◌, ℕ, zero, suc, ◌*◌, ◌/◌, ◌%◌, ◌^◌, ◌<◌, ◌≤◌, Bool, true, false, ◌==◌, eqb, ltb, List, [], ◌∷◌, ◌++◌, map, length, sym, refl, ap, ◌∙◌, arith, ltb-false, ltb-true, eq-eqb, ne_eqb, pow-suc}
use lib.ListN.{get_or-eq_default}
use lib.Seq.{drop-nil}
use Rattle.scan.specs.Bytes.{pick, bytes}
use Rattle.scan.proofs.Laws.{on-range, off-keys, range, among, None}
use Rattle.text.specs.Emit.{lit, none, ◌⨾◌, Wrote}
use Rattle.text.specs.Words.{words, word}
use Rattle.text.specs.Letters.{spell, piece}
use Rattle.text.proofs.Seq.{wrote_none, wrote-seq, wrote-is}

-- nothing is spelled by 0, nor where no letter is left
pub spelled_none : (b : List ℕ) (o n c : ℕ) → c ≡ 0 → Wrote (lit (spell n c)) b o b o
unfolding spell lit none
spelled_none b o zero c h = wrote_none b o
spelled_none b o (suc n) c h = rw h (wrote_none b o)

-- two texts of bytes are one
pub wrote-both : (s t : List ℕ) {b b₁ b₂ : List ℕ} {o o₁ o₂ : ℕ} → Wrote (lit s) b o b₁ o₁ → Wrote (lit t) b₁ o₁ b₂ o₂ → Wrote (lit (s ++ t)) b o b₂ o₂
unfolding lit ◌⨾◌
wrote-both s t v w = wrote-seq v w

-- a letter, and then the others
spell-more : (n c : ℕ) → (c ≡ 0 → ⊥) → spell (suc n) c ≡ (c % 256) ∷ spell n (c / 256)
unfolding spell
spell-more n c k = ap (λ b. pick b [] ((c % 256) ∷ spell n (c / 256))) (ne_eqb c 0 k)

-- eight letters are room for one more, where the number has no more than seven
spell-room : (n c : ℕ) → c < 256 ^ n → spell n c ≡ spell (suc n) c
unfolding spell
spell-room zero c h = let e : c ≡ 0 = omega (arith, h) in rw e
spell-room (suc n) c h = ap (λ t. pick (c == 0) [] ((c % 256) ∷ t)) (spell-room n (c / 256) (omega (arith, h, pow-suc 256 n)))

pub spelled-more : {b b₁ b₂ : List ℕ} {o o₁ o₂ : ℕ} (c : ℕ) → c < 2 ^ 64 → (c ≡ 0 → ⊥) → Wrote (lit ((c % 256) ∷ [])) b o b₁ o₁ → Wrote (lit (spell 8 (c / 256))) b₁ o₁ b₂ o₂ → Wrote (lit (spell 8 c)) b o b₂ o₂
spelled-more c h k v w =
    wrote-is (ap lit (spell-more 7 c k)) (wrote-both ((c % 256) ∷ []) (spell 7 (c / 256)) v (wrote-is (ap lit (spell-room 7 (c / 256) (omega (arith, h)))) w))

-- how many words there are, and what is so of each of them and past them is so of every number
abbrev count : ℕ
count = length words

on-words : {A : Type 0} (f g : ℕ → A) (w : ℕ) → (w < count → f w ≡ g w) → (count ≤ w → f w ≡ g w) → f w ≡ g w
on-words f g w there past = by (ltb w count) refl
  where
    by : (b : Bool) → ltb w count ≡ b → f w ≡ g w
    by true e = there (ltb-true w count e)
    by false e = past (ltb-false w count e)

no_word : (w : ℕ) → count ≤ w → word w ≡ []
unfolding word
no_word w h = ap bytes (get_or-eq_default words "" {n = w} h)

no-piece : (k w : ℕ) → count ≤ w → 0 ≡ piece k w
unfolding piece
no-piece k w h = rw (no_word w h, drop-nil {A = ℕ} (8 * k))

-- a word has no letters there: it is none of those that have
pub missing : (k : ℕ) (keys : List ℕ) → map (λ (w : ℕ). 0) (range 0 count) ≡ map (λ w. pick (among keys w) 0 (piece k w)) (range 0 count) → (w : ℕ) → None w keys → 0 ≡ piece k w
missing k keys e w off = on-words (λ (w : ℕ). 0) (piece k) w (λ h. off-keys keys 0 count (λ (w : ℕ). 0) (piece k) e w (omega arith) h off) (no-piece k w)

spelled : (f : ℕ → List ℕ) → map word (range 0 count) ≡ map f (range 0 count) → (w : ℕ) → (word w ≡ [] → f w ≡ []) → word w ≡ f w
spelled f e w past = on-words word f w (λ h. on-range 0 count word f e w (omega arith) h) (λ h. no_word w h ∙ sym (past (no_word w h)))

module _ (w : ℕ) where
  pub word-one : piece 1 w ≡ 0 → word w ≡ spell 8 (piece 0 w)
  unfolding word piece spell
  word-one e = spelled (λ w. pick (eqb (piece 1 w) 0) (spell 8 (piece 0 w)) (word w)) refl w (λ n. rw n) ∙ ap (λ b. pick b (spell 8 (piece 0 w)) (word w)) (eq-eqb (piece 1 w) 0 e)

  pub word_two : piece 2 w ≡ 0 → word w ≡ spell 8 (piece 0 w) ++ spell 8 (piece 1 w)
  unfolding word piece spell
  word_two e =
      spelled (λ w. pick (eqb (piece 2 w) 0) (spell 8 (piece 0 w) ++ spell 8 (piece 1 w)) (word w)) refl w (λ n. rw n)
      ∙ ap (λ b. pick b (spell 8 (piece 0 w) ++ spell 8 (piece 1 w)) (word w)) (eq-eqb (piece 2 w) 0 e)

  pub word-all : word w ≡ spell 8 (piece 0 w) ++ (spell 8 (piece 1 w) ++ (spell 8 (piece 2 w) ++ (spell 8 (piece 3 w) ++ spell 8 (piece 4 w))))
  unfolding word piece spell
  word-all = spelled (λ w. spell 8 (piece 0 w) ++ (spell 8 (piece 1 w) ++ (spell 8 (piece 2 w) ++ (spell 8 (piece 3 w) ++ spell 8 (piece 4 w))))) refl w (λ n. rw n)
