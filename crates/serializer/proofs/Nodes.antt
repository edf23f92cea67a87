-- The node that a reference names, at its kind, in the words of what the code has read. Assumes nothing.
use Rattle.std.proofs.Common.{◌≡◌, ℕ, ◌-◌, ◌<◌, true, false, List, [], ◌∷◌, sym, ap, ◌∙◌}
use Rattle.node.specs.Cells.{cell_of}
use Rattle.meaning.specs.Tree.{node, shown, numbers_of, bytes_of, tree_of, kid_of}
use Rattle.meaning.proofs.Trees.{tree-none, tree_is}
use Rattle.serializer.specs.Serializer.{kind_of, is_empty}

-- the numbers of a node of kind K
abbrev pub numbers_at : ℕ → ℕ → ℕ → ℕ → ℕ → List ℕ
numbers_at K p q r s = shown K p ∷ shown K q ∷ r ∷ s ∷ []

module _ (t y : List ℕ) {r : ℕ} (h : 0 < r) where
  pub kind-is : {k : ℕ} → k ≡ cell_of t (r - 1) 0 → kind_of (tree_of t y r) ≡ k
  kind-is e = ap kind_of (tree_is t y r h) ∙ sym e

  pub not-empty : is_empty (tree_of t y r) ≡ false
  not-empty = ap is_empty (tree_is t y r h)

  -- the node that r names, of kind K; each of its cells may be given as what was read of it
  pub node_at : {k : ℕ} (K : ℕ) {a b c u v w x : ℕ} → k ≡ cell_of t (r - 1) 0 → k ≡ K
      → a ≡ kid_of t (r - 1) 4 → b ≡ kid_of t (r - 1) 5 → c ≡ kid_of t (r - 1) 6
      → u ≡ cell_of t (r - 1) 7 → v ≡ cell_of t (r - 1) 8 → w ≡ cell_of t (r - 1) 9 → x ≡ cell_of t (r - 1) 10
      → tree_of t y r ≡ node K (numbers_at K u v w x) (bytes_of t y (r - 1)) (tree_of t y a) (tree_of t y b) (tree_of t y c)
  unfolding numbers_of
  node_at K e q ea eb ec eu ev ew ex = tree_is t y r h ∙ rw (sym e ∙ q, ea, eb, ec, eu, ev, ew, ex)

pub empty-none : (t y : List ℕ) {r : ℕ} → r ≡ 0 → is_empty (tree_of t y r) ≡ true
empty-none t y {r} e = ap is_empty (tree-none t y r e)

pub kind-none : (t y : List ℕ) {r : ℕ} → r ≡ 0 → kind_of (tree_of t y r) ≡ 0
kind-none t y {r} e = ap kind_of (tree-none t y r e)
