-- The laws of `cut`. Assumes nothing.
use Rattle.std.proofs.Common.{◌≡◌, ℕ, ◌≤◌, List, ◌++◌, length, take, drop, sym, ap, ◌∙◌, append-nil, le_refl, arith, length-append, length-drop, drop_of_length-le, length-take, take_all, take-take, drop-drop}
use lib.Seq.{take-append_seam, take-append-le, take-length, drop-append-add}
use Rattle.text.specs.Emit.{cut}

pub length_cut : (b w : List ℕ) → length (cut b w) ≡ length b
unfolding cut
length_cut b w = simp (length-append, length-take, length-drop) (omega arith)

-- w fits
pub cut_fits : (b w : List ℕ) → length w ≤ length b → cut b w ≡ w ++ drop (length w) b
unfolding cut
cut_fits b w h = ap (λ l. l ++ drop (length w) b) (take_all (length b) w h)

pub take-cut : (b w : List ℕ) → length w ≤ length b → take (length w) (cut b w) ≡ w
take-cut b w h = ap (take (length w)) (cut_fits b w h) ∙ take-append_seam w (drop (length w) b)

-- w does not fit
pub cut-over : (b w : List ℕ) → length b ≤ length w → cut b w ≡ take (length b) w
unfolding cut
cut-over b w h = rw (drop_of_length-le b h) (append-nil (take (length b) w))

pub cut-more : (b w u : List ℕ) → length b ≤ length w → cut b (w ++ u) ≡ cut b w
cut-more b w u h =
    let k : length b ≤ length (w ++ u) = simp length-append (omega arith) in
    cut-over b (w ++ u) k ∙ take-append-le (length b) w u h ∙ sym (cut-over b w h)

pub cut-self : (b u : List ℕ) → cut b (b ++ u) ≡ b
cut-self b u = cut-more b b u (le_refl (length b)) ∙ cut-over b b (le_refl (length b)) ∙ take-length b

pub cut-cut : (b w u : List ℕ) → length w ≤ length b → cut (cut b w) (w ++ u) ≡ cut b (w ++ u)
unfolding cut
cut-cut b w u h = ap (λ n. take n (w ++ u) ++ drop (length (w ++ u)) (cut b w)) (length_cut b w) ∙ ap (λ l. take (length b) (w ++ u) ++ l) tail
  where
    tail : drop (length (w ++ u)) (cut b w) ≡ drop (length (w ++ u)) b
    tail = ap (drop (length (w ++ u))) (cut_fits b w h) ∙ ap (λ n. drop n (w ++ drop (length w) b)) (length-append w u) ∙ drop-append-add w (drop (length w) b) (length u)
        ∙ drop-drop (length u) (length w) b ∙ ap (λ n. drop n b) (sym (length-append w u))

-- the beginning of what stands in both
pub take-cut-le : (b w : List ℕ) (n : ℕ) → n ≤ length b → n ≤ length w → take n (cut b w) ≡ take n w
unfolding cut
take-cut-le b w n h k = take-append-le n (take (length b) w) (drop (length w) b) (omega (arith, length-take (length b) w)) ∙ take-take n (length b) w h
