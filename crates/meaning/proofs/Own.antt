-- What nodes hold themselves. Assumes nothing.
use Prim.Native.Nat.{ℕ, suc}
use mathlib.Core.Bool.{Bool, true, false, ◌&&◌, and-true, and_comm, and_assoc}
use mathlib.Core.Path.{◌≡◌, refl, sym, ap, ◌∙◌}
use mathlib.Core.List.{List, [], ◌∷◌}
use lib.Dec.{eqb}
use lib.ListN.{length}
use borrow.Author.Tests.{eq-eqb, ne_eqb, eqb-true}
use Rattle.node.specs.Cells.{cell_of}
use Rattle.meaning.specs.Tree.{part, content_of, shown, numbers_of, bytes_of, eq_list, eq_own, eq_content, eq_numbers}
use Rattle.meaning.proofs.Trees.{and_both, eq_list-refl}

pub length-other : (x y : List ℕ) → (length x ≡ length y → ⊥) → eq_list x y ≡ false
unfolding eq_list
length-other [] [] n = absurd (n refl)
length-other [] (y ∷ ys) n = refl
length-other (x ∷ xs) [] n = refl
length-other (x ∷ xs) (y ∷ ys) n = ap (λ b. eqb x y && b) (length-other xs ys (λ e. n (ap suc e))) ∙ none (eqb x y)
  where
    none : (b : Bool) → b && false ≡ false
    none true = refl
    none false = refl

-- what the first two numbers of two nodes of one kind say
module _ (t s : List ℕ) (i j : ℕ) where
  pub content-numbers : content_of (cell_of t i 0) ≡ 0 → eq_content t s i j ≡ eqb (cell_of t i 7) (cell_of t j 7) && eqb (cell_of t i 8) (cell_of t j 8)
  unfolding eq_content
  content-numbers z = rw (eq-eqb (content_of (cell_of t i 0)) 0 z)

  module _ (k : cell_of t i 0 ≡ cell_of t j 0) (z : content_of (cell_of t i 0) ≡ 0 → ⊥) where
    pub content-bytes :
        content_of (cell_of t i 0) ≡ 1 → eq_content t s i j ≡ eq_list (part s (cell_of t i 7) (cell_of t i 8)) (part s (cell_of t j 7) (cell_of t j 8))
    unfolding eq_content bytes_of
    content-bytes e = rw (← k, ne_eqb (content_of (cell_of t i 0)) 0 z, eq-eqb (content_of (cell_of t i 0)) 1 e)

last-first : (p q r s : Bool) → p && (q && (r && (s && true))) ≡ r && (s && (p && q))
last-first p q r s = rw (and-true s) (sym (and_assoc p q (r && s)) ∙ and_comm (p && q) (r && s) ∙ and_assoc r s (p && q))

-- two nodes, cell by cell
module _ (t s : List ℕ) (i j : ℕ) where
  pub own-0 : eqb (cell_of t i 0) (cell_of t j 0) ≡ false → eq_own t s i j ≡ false
  unfolding eq_own
  own-0 e = rw e

  abbrev shown-same : ℕ → Bool
  shown-same m = eqb (shown (cell_of t i 0) (cell_of t i m)) (shown (cell_of t j 0) (cell_of t j m))

  -- the last two numbers first, as same_own asks for them
  numbers-turned :
      eq_list (numbers_of t i) (numbers_of t j)
      ≡ eqb (cell_of t i 9) (cell_of t j 9) && (eqb (cell_of t i 10) (cell_of t j 10) && (shown-same 7 && shown-same 8))
  unfolding numbers_of eq_list
  numbers-turned = last-first (shown-same 7) (shown-same 8) (eqb (cell_of t i 9) (cell_of t j 9)) (eqb (cell_of t i 10) (cell_of t j 10))

  module _ (e0 : eqb (cell_of t i 0) (cell_of t j 0) ≡ true) where
    pub own-9 : eqb (cell_of t i 9) (cell_of t j 9) ≡ false → eq_own t s i j ≡ false
    unfolding eq_own
    own-9 e = rw (e0, numbers-turned, e)

    module _ (e9 : eqb (cell_of t i 9) (cell_of t j 9) ≡ true) where
      pub own-10 : eqb (cell_of t i 10) (cell_of t j 10) ≡ false → eq_own t s i j ≡ false
      unfolding eq_own
      own-10 e = rw (e0, numbers-turned, e9, e)

      module _ (e10 : eqb (cell_of t i 10) (cell_of t j 10) ≡ true) where
        kind : cell_of t i 0 ≡ cell_of t j 0
        kind = eqb-true _ _ e0

        own-numbers : eqb (content_of (cell_of t i 0)) 0 ≡ true → eq_own t s i j ≡ eq_content t s i j
        unfolding eq_own eq_content bytes_of eq_list
        own-numbers z = rw (e0, numbers-turned, e9, e10, ← kind, z) (and-true (eqb (cell_of t i 7) (cell_of t j 7) && eqb (cell_of t i 8) (cell_of t j 8)))

        own-bytes : eqb (content_of (cell_of t i 0)) 0 ≡ false → eq_own t s i j ≡ eq_content t s i j
        unfolding eq_own eq_content
        own-bytes z = rw (e0, numbers-turned, e9, e10, ← kind, z)

        pub own-content : eq_own t s i j ≡ eq_content t s i j
        own-content = pick (eqb (content_of (cell_of t i 0)) 0) refl
          where
            pick : (b : Bool) → eqb (content_of (cell_of t i 0)) 0 ≡ b → eq_own t s i j ≡ eq_content t s i j
            pick true z = own-numbers z
            pick false z = own-bytes z

  -- told by the content alone
  pub own-not : eqb (cell_of t i 0) (cell_of t j 0) ≡ true → eq_content t s i j ≡ false → eq_own t s i j ≡ false
  own-not e0 z = pick (eqb (cell_of t i 9) (cell_of t j 9)) (eqb (cell_of t i 10) (cell_of t j 10)) refl refl
    where
      pick : (b d : Bool) → eqb (cell_of t i 9) (cell_of t j 9) ≡ b → eqb (cell_of t i 10) (cell_of t j 10) ≡ d → eq_own t s i j ≡ false
      pick false d e9 e10 = own-9 e0 e9
      pick true false e9 e10 = own-10 e0 e9 e10
      pick true true e9 e10 = own-content e0 e9 e10 ∙ z

  -- the cells that tell most apart first
  pub own_is : eq_own t s i j ≡ eqb (cell_of t i 0) (cell_of t j 0) && (eqb (cell_of t i 9) (cell_of t j 9) && (eqb (cell_of t i 10) (cell_of t j 10) && eq_content t s i j))
  own_is = pick (eqb (cell_of t i 0) (cell_of t j 0)) (eqb (cell_of t i 9) (cell_of t j 9)) (eqb (cell_of t i 10) (cell_of t j 10)) refl refl refl
    where
      pick : (a b d : Bool) → eqb (cell_of t i 0) (cell_of t j 0) ≡ a → eqb (cell_of t i 9) (cell_of t j 9) ≡ b → eqb (cell_of t i 10) (cell_of t j 10) ≡ d → eq_own t s i j ≡ a && (b && (d && eq_content t s i j))
      pick false b d e0 e9 e10 = own-0 e0
      pick true false d e0 e9 e10 = own-9 e0 e9
      pick true true false e0 e9 e10 = own-10 e0 e9 e10
      pick true true true e0 e9 e10 = own-content e0 e9 e10

-- nodes of one kind and with the same numbers
module _ (t s : List ℕ) (i j : ℕ) (e0 : eqb (cell_of t i 0) (cell_of t j 0) ≡ true) (e7 : eqb (cell_of t i 7) (cell_of t j 7) ≡ true) (e8 : eqb (cell_of t i 8) (cell_of t j 8) ≡ true) where
  bytes_same : bytes_of t s i ≡ bytes_of t s j
  unfolding bytes_of
  bytes_same = rw (eqb-true (cell_of t i 0) (cell_of t j 0) e0, eqb-true (cell_of t i 7) (cell_of t j 7) e7, eqb-true (cell_of t i 8) (cell_of t j 8) e8)

  module _ (e9 : eqb (cell_of t i 9) (cell_of t j 9) ≡ true) (e10 : eqb (cell_of t i 10) (cell_of t j 10) ≡ true) where
    numbers-same : numbers_of t i ≡ numbers_of t j
    unfolding numbers_of
    numbers-same = rw (eqb-true (cell_of t i 0) (cell_of t j 0) e0, eqb-true (cell_of t i 7) (cell_of t j 7) e7, eqb-true (cell_of t i 8) (cell_of t j 8) e8, eqb-true (cell_of t i 9) (cell_of t j 9) e9, eqb-true (cell_of t i 10) (cell_of t j 10) e10)

    pub own_same : eq_own t s i j ≡ true
    unfolding eq_own
    own_same = rw (e0, numbers-same, bytes_same, eq_list-refl (numbers_of t j)) (eq_list-refl (bytes_of t s j))

pub own_equal : (t s : List ℕ) (i j : ℕ) → eq_numbers t i j ≡ true → eq_own t s i j ≡ true
own_equal t s i j e =
    let a = and_both _ _ e in
    let b = and_both _ _ a.1 in
    let d = and_both _ _ b.1 in
    let f = and_both _ _ d.1 in
    own_same t s i j a.0 b.0 d.0 f.0 f.1
