-- What a node past the table means, and which nodes mean the same. Assumes nothing.
use Prim.Native.Nat.{ℕ, ◌+◌, ◌-◌, ◌≤◌, ◌<◌}
use mathlib.Core.Bool.{Bool, true, false}
use mathlib.Core.Path.{◌≡◌, refl, sym, ap, ap₂, ◌∙◌}
use mathlib.Core.List.{List, [], ◌∷◌}
use native.Mathlib.Decide.{ℕ_discrete}
use native.Mathlib.Omega.{arith}
use borrow.Author.Tests.{le-leb, le-ltb, eqb-true}
use Rattle.node.specs.Cells.{nodes, cell_of}
use Rattle.meaning.specs.Tree.{Tree, none, numbers_of, bytes_of, content_of, tree_of, blank_tree, is_blank, kid_of, eq_tree}
use Rattle.meaning.proofs.Trees.{true-false, and_both, eq_tree-refl, eq_tree-sound, node_is, tree-none, tree_is}
use Rattle.meaning.proofs.Compare.{same-one}

-- what the cells of such a node are
pub record Blank (t : List ℕ) (n : ℕ) : Type 0 where
  pub cells : cell_of t n 0 + (cell_of t n 7 + cell_of t n 8 + cell_of t n 9 + cell_of t n 10) ≡ 0
  pub first : kid_of t n 4 ≡ 0
  pub second : kid_of t n 5 ≡ 0
  pub third : kid_of t n 6 ≡ 0

past-cell : (t : List ℕ) (n j : ℕ) → nodes t ≤ n → cell_of t n j ≡ 0
unfolding cell_of
past-cell t n j h = rw (le-ltb n (nodes t) h)

past-kid : (t : List ℕ) (n j : ℕ) → nodes t ≤ n → kid_of t n j ≡ 0
unfolding kid_of
past-kid t n j h = rw (past-cell t n j h, le-leb 0 n (omega arith))

only_none : (t y : List ℕ) (r : ℕ) → tree_of t y r ≡ none → r ≡ 0
only_none t y r e = pick (ℕ_discrete r 0)
  where
    pick : Dec (r ≡ 0) → r ≡ 0
    pick (yes z) = z
    pick (no z) = true-false (sym (eq_tree-refl none) ∙ ap₂ eq_tree (sym e) (sym (tree-none t y 0 refl)) ∙ same-one t y r 0 refl z)

eq_tree-flip : (a b : Tree) → eq_tree a b ≡ eq_tree b a
eq_tree-flip a b = pick (eq_tree a b) (eq_tree b a) refl refl
  where
    pick : (x y : Bool) → eq_tree a b ≡ x → eq_tree b a ≡ y → eq_tree a b ≡ eq_tree b a
    pick true y e f = ap₂ eq_tree (eq_tree-sound a b e) (sym (eq_tree-sound a b e))
    pick false true e f = ap₂ eq_tree (sym (eq_tree-sound b a f)) (eq_tree-sound b a f)
    pick false false e f = e ∙ sym f

module _ (t y : List ℕ) (r : ℕ) (hr : 1 ≤ r) where
  blank-tree : Blank t (r - 1) → tree_of t y r ≡ blank_tree
  unfolding numbers_of bytes_of content_of blank_tree
  blank-tree b =
      let z0 : cell_of t (r - 1) 0 ≡ 0 = omega (arith, b.cells) in
      let z7 : cell_of t (r - 1) 7 ≡ 0 = omega (arith, b.cells) in
      let z8 : cell_of t (r - 1) 8 ≡ 0 = omega (arith, b.cells) in
      let z9 : cell_of t (r - 1) 9 ≡ 0 = omega (arith, b.cells) in
      let z10 : cell_of t (r - 1) 10 ≡ 0 = omega (arith, b.cells) in
      tree_is t y r hr ∙ rw (z0, z7, z8, z9, z10, tree-none t y _ b.first, tree-none t y _ b.second, tree-none t y _ b.third)

  pub past-tree : nodes t < r → tree_of t y r ≡ blank_tree
  past-tree h =
      let g : nodes t ≤ r - 1 = omega arith in
      blank-tree (record {
        cells = omega (arith, past-cell t (r - 1) 0 g, past-cell t (r - 1) 7 g, past-cell t (r - 1) 8 g, past-cell t (r - 1) 9 g, past-cell t (r - 1) 10 g);
        first = past-kid t (r - 1) 4 g;
        second = past-kid t (r - 1) 5 g;
        third = past-kid t (r - 1) 6 g;
      })

  tree-blank : tree_of t y r ≡ blank_tree → Blank t (r - 1)
  unfolding numbers_of content_of blank_tree
  tree-blank e =
      let f : node_is t y (r - 1) ≡ blank_tree = sym (tree_is t y r hr) ∙ e in
      let z0 : cell_of t (r - 1) 0 ≡ 0 = cc in
      let l : numbers_of t (r - 1) ≡ 0 ∷ 0 ∷ 0 ∷ 0 ∷ [] = cc in
      let m : cell_of t (r - 1) 7 ∷ cell_of t (r - 1) 8 ∷ cell_of t (r - 1) 9 ∷ cell_of t (r - 1) 10 ∷ [] ≡ 0 ∷ 0 ∷ 0 ∷ 0 ∷ [] = rw z0 at l in
      let z7 : cell_of t (r - 1) 7 ≡ 0 = cc in
      let z8 : cell_of t (r - 1) 8 ≡ 0 = cc in
      let z9 : cell_of t (r - 1) 9 ≡ 0 = cc in
      let z10 : cell_of t (r - 1) 10 ≡ 0 = cc in
      let a : tree_of t y (kid_of t (r - 1) 4) ≡ none = cc in
      let b : tree_of t y (kid_of t (r - 1) 5) ≡ none = cc in
      let c : tree_of t y (kid_of t (r - 1) 6) ≡ none = cc in
      record { cells = omega arith; first = only_none t y _ a; second = only_none t y _ b; third = only_none t y _ c }

  pub not-blank : (Blank t (r - 1) → ⊥) → eq_tree (tree_of t y r) blank_tree ≡ false
  not-blank h = pick (eq_tree (tree_of t y r) blank_tree) refl
    where
      pick : (b : Bool) → eq_tree (tree_of t y r) blank_tree ≡ b → eq_tree (tree_of t y r) blank_tree ≡ false
      pick true e = absurd (h (tree-blank (eq_tree-sound _ _ e)))
      pick false e = e

  pub is-blank : Blank t (r - 1) → eq_tree (tree_of t y r) blank_tree ≡ true
  is-blank b = ap (λ x. eq_tree x blank_tree) (blank-tree b) ∙ eq_tree-refl blank_tree

  -- one of two references is past the table
  pub past_first : (q : ℕ) → nodes t < r → eq_tree (tree_of t y q) blank_tree ≡ eq_tree (tree_of t y r) (tree_of t y q)
  past_first q h = eq_tree-flip (tree_of t y q) blank_tree ∙ ap (λ x. eq_tree x (tree_of t y q)) (sym (past-tree h))

  pub past-second : (q : ℕ) → nodes t < r → eq_tree (tree_of t y q) blank_tree ≡ eq_tree (tree_of t y q) (tree_of t y r)
  past-second q h = ap (eq_tree (tree_of t y q)) (sym (past-tree h))

-- what the code asks of the cells
pub blank_told : (t y : List ℕ) (r : ℕ) → 1 ≤ r → is_blank t (r - 1) ≡ eq_tree (tree_of t y r) blank_tree
blank_told t y r hr = pick (is_blank t (r - 1)) refl
  where
    pick : (b : Bool) → is_blank t (r - 1) ≡ b → b ≡ eq_tree (tree_of t y r) blank_tree
    pick true e =
        let a = and_both _ _ e in
        let b = and_both _ _ a.1 in
        let d = and_both _ _ b.1 in
        sym (is-blank t y r hr (record { cells = eqb-true _ _ a.0; first = eqb-true _ _ b.0; second = eqb-true _ _ d.0; third = eqb-true _ _ d.1 }))
    pick false e = sym (not-blank t y r hr (λ b. true-false (sym (rw (b.cells, b.first, b.second, b.third)) ∙ e)))
