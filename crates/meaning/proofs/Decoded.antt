-- What an encoded string stands for: its first character, and then what the rest stands for. Assumes nothing.
use Prim.Native.Nat.{ℕ, zero, suc, ◌+◌, ◌≤◌}
use mathlib.Core.Bool.{Bool, true, false}
use mathlib.Core.Path.{◌≡◌, refl, ap, ◌∙◌}
use mathlib.Core.List.{List, [], ◌∷◌}
use native.Mathlib.Omega.{arith}
use lib.ListN.{length, drop, length-drop}
use lib.Seq.{drop-drop}
use borrow.Author.Tests.{eq-eqb, ne_eqb}
use Rattle.scan.specs.Bytes.{pick, is, is_digit, is_lower, is_upper}
use Rattle.scan.specs.Cursor.{Leaf}
use Rattle.std.specs.Prelude.{Ok, Err}
use Rattle.strings.specs.Encoded.{character, escape, hex_pair, low_letter, is_nibble, is_plain}
use Rattle.strings.proofs.Fit.{character-fits}
use Rattle.meaning.specs.Tree.{onward, decoded_in, decoded, eq_list}

-- a character takes a byte at least
abbrev Grows : Leaf → Type 0
Grows (Ok (v, t)) = 1 ≤ t
Grows (Err t) = Unit {0}

pick-grows : (b : Bool) (x y : Leaf) → Grows x → Grows y → Grows (pick b x y)
pick-grows true x y f g = f
pick-grows false x y f g = g

low-grows : (high : ℕ) (r : List ℕ) → Grows (low_letter high r)
unfolding low_letter
low-grows high [] = tt
low-grows high (c ∷ r) = pick-grows (is_nibble c) (Ok (_, 4)) (Err 4) (omega arith) tt

pair-grows : (r : List ℕ) → Grows (hex_pair r)
unfolding hex_pair
pair-grows [] = tt
pair-grows (c ∷ r) = pick-grows (is_nibble c) (low_letter c r) (Err 3) (low-grows c r) tt

escape-grows : (r : List ℕ) → Grows (escape r)
unfolding escape
escape-grows [] = tt
escape-grows (c ∷ r) =
    pick-grows (is_upper c) (Ok (_, 2)) _ (omega arith)
    (pick-grows (is_lower c) (Ok (_, 2)) _ (omega arith)
    (pick-grows (is_digit c) (Ok (_, 2)) _ (omega arith) (pick-grows (is "$" c) (hex_pair r) (Err 2) (pair-grows r) tt)))

character-grows : (r : List ℕ) → Grows (character r)
unfolding character
character-grows [] = tt
character-grows (c ∷ r) = pick-grows (is_plain c) (Ok (c, 1)) _ (omega arith) (pick-grows (is "?" c) (escape r) (Err 1) (escape-grows r) tt)

pub character-takes : (r : List ℕ) {v t : ℕ} → character r ≡ Ok (v, t) → 1 ≤ t
character-takes r e = rw e at (character-grows r)

-- as much fuel as there are bytes is enough
onward-same :
    (x : Leaf) (f g : ℕ → ℕ → List ℕ) → Grows x → ((v t : ℕ) → 1 ≤ t → f v t ≡ g v t) → onward x f ≡ onward x g
onward-same (Ok (v, t)) f g h p = p v t h
onward-same (Err t) f g h p = refl

enough : (k m : ℕ) (r : List ℕ) → length r ≤ k → length r ≤ m → decoded_in k r ≡ decoded_in m r
unfolding decoded_in character
enough zero zero r h g = refl
enough zero (suc m) [] h g = refl
enough zero (suc m) (c ∷ r) h g = absurd (omega arith)
enough (suc k) zero [] h g = refl
enough (suc k) zero (c ∷ r) h g = absurd (omega arith)
enough (suc k) (suc m) r h g =
    onward-same (character r) (λ v t. v ∷ decoded_in k (drop t r)) (λ v t. v ∷ decoded_in m (drop t r)) (character-grows r)
    (λ v t p. ap (λ l. v ∷ l) (enough k m (drop t r) (omega (arith, length-drop t r)) (omega (arith, length-drop t r))))

pub decoded-more : (r : List ℕ) {v t : ℕ} → character r ≡ Ok (v, t) → decoded r ≡ v ∷ decoded (drop t r)
unfolding decoded decoded_in
decoded-more [] e = absurd (omega (arith, rw e at (character-fits []), character-takes [] e))
decoded-more (c ∷ r) {v} {t} e =
    rw e
    (ap (λ l. v ∷ l)
    (enough (length r) (length (drop t (c ∷ r))) (drop t (c ∷ r)) (omega (arith, length-drop t (c ∷ r), character-takes (c ∷ r) e)) (omega arith)))

pub decoded-end : (r : List ℕ) {t : ℕ} → character r ≡ Err t → decoded r ≡ []
unfolding decoded decoded_in
decoded-end [] e = refl
decoded-end (c ∷ r) e = rw e

-- two encoded strings, from a place of each on
module _ (a b : List ℕ) (i j : ℕ) where
  abbrev pub strings : Bool
  strings = eq_list (decoded (drop i a)) (decoded (drop j b))

  module _ {v n : ℕ} (e : character (drop i a) ≡ Ok (v, n)) where
    pub string-longer : {m : ℕ} → character (drop j b) ≡ Err m → strings ≡ false
    unfolding eq_list
    string-longer f = rw (decoded-more (drop i a) e, decoded-end (drop j b) f)

    module _ {w m : ℕ} (f : character (drop j b) ≡ Ok (w, m)) where
      both-more : strings ≡ eq_list (v ∷ decoded (drop (i + n) a)) (w ∷ decoded (drop (j + m) b))
      both-more = rw (decoded-more (drop i a) e, decoded-more (drop j b) f, drop-drop n i a, drop-drop m j b)

      pub string-other : (v ≡ w → ⊥) → strings ≡ false
      unfolding eq_list
      string-other h = both-more ∙ rw (ne_eqb v w h)

      pub string-same : v ≡ w → strings ≡ eq_list (decoded (drop (i + n) a)) (decoded (drop (j + m) b))
      unfolding eq_list
      string-same h = both-more ∙ rw (eq-eqb v w h)

  module _ {n : ℕ} (e : character (drop i a) ≡ Err n) where
    pub string-shorter : {w m : ℕ} → character (drop j b) ≡ Ok (w, m) → strings ≡ false
    unfolding eq_list
    string-shorter f = rw (decoded-end (drop i a) e, decoded-more (drop j b) f)

    pub string-end : {m : ℕ} → character (drop j b) ≡ Err m → strings ≡ true
    unfolding eq_list
    string-end f = rw (decoded-end (drop i a) e, decoded-end (drop j b) f)
