-- The laws of trees: what a reference means, and equality. Assumes nothing.
--     tree-none, tree_is      what a reference means
--     tree-same, tree-other   eq_tree says whether trees are equal
--     tree-kept               nodes added behind a node change nothing of what it means
use Prim.Native.Nat.{ℕ, zero, suc, ◌+◌, ◌-◌, ◌≤◌, ◌<◌}
use mathlib.Core.Bool.{Bool, true, false, cond, ◌&&◌}
use mathlib.Core.Logic.{◌↔◌}
use mathlib.Core.Path.{◌≡◌, refl, sym, ap, ◌∙◌}
use mathlib.Core.List.{List}
use native.Mathlib.Decide.{ℕ_discrete, dec_le}
use native.Mathlib.Omega.{arith}
use lib.Dec.{eqb, leb}
use borrow.Author.Tests.{eq-eqb, le-leb, lt-leb, eqb-true}
use Rattle.std.proofs.lemmas.Slice.Eq.{bytes_eq-Decides}
use Rattle.node.specs.Cells.{cell_of}
use Rattle.meaning.specs.Below.{below}
use Rattle.meaning.specs.Tree.{Tree, none, node, numbers_of, bytes_of, tree, tree_at, tree_of, kid_of, eq_list, eq_tree}
use Rattle.meaning.proofs.Below.{below_none, below-past, below_at}

pub true-false : {A : Type 0} → true ≡ false → A
true-false e = let z : ◌≡◌ {A = ℕ} 0 1 = cc in absurd (omega arith)

pub and_both : (a b : Bool) → a && b ≡ true → (a ≡ true) × (b ≡ true)
and_both true b e = (refl, e)
and_both false b e = true-false (sym e)

-- equality of lists and of trees
pub eq_list-refl : (x : List ℕ) → eq_list x x ≡ true
unfolding eq_list
eq_list-refl x = (bytes_eq-Decides x x).1 refl

eq_list-sound : (x y : List ℕ) → eq_list x y ≡ true → x ≡ y
unfolding eq_list
eq_list-sound x y = (bytes_eq-Decides x y).0

pub eq_tree-refl : (a : Tree) → eq_tree a a ≡ true
unfolding eq_tree
eq_tree-refl none = refl
eq_tree-refl (node k x s a b c) = rw (eq-eqb k k refl, eq_list-refl x, eq_list-refl s, eq_tree-refl a, eq_tree-refl b) (eq_tree-refl c)

pub eq_tree-sound : (a b : Tree) → eq_tree a b ≡ true → a ≡ b
unfolding eq_tree
eq_tree-sound none none e = refl
eq_tree-sound none (node l y u d f g) e = true-false (sym e)
eq_tree-sound (node k x s a b c) none e = true-false (sym e)
eq_tree-sound (node k x s a b c) (node l y u d f g) e =
    let all = and_both (eqb k l && (eq_list x y && eq_list s u)) (eq_tree a d && (eq_tree b f && eq_tree c g)) e in
    let own = and_both (eqb k l) (eq_list x y && eq_list s u) all.0 in
    let words = and_both (eq_list x y) (eq_list s u) own.1 in
    let kids = and_both (eq_tree a d) (eq_tree b f && eq_tree c g) all.1 in
    let last = and_both (eq_tree b f) (eq_tree c g) kids.1 in
    let p1 : k ≡ l = eqb-true k l own.0 in
    let p2 : x ≡ y = eq_list-sound x y words.0 in
    let p3 : s ≡ u = eq_list-sound s u words.1 in
    let p4 : a ≡ d = eq_tree-sound a d kids.0 in
    let p5 : b ≡ f = eq_tree-sound b f last.0 in
    let p6 : c ≡ g = eq_tree-sound c g last.1 in
    cc

pub tree-same : (a b : Tree) → (eq_tree a b ≡ true) ↔ (a ≡ b)
tree-same a b = (eq_tree-sound a b, λ e. ap (eq_tree a) (sym e) ∙ eq_tree-refl a)

pub tree-other : (a b : Tree) → (eq_tree a b ≡ false) ↔ (a ≡ b → ⊥)
tree-other a b = (λ z e. true-false (sym ((tree-same a b).1 e) ∙ z), λ n. pick n (eq_tree a b) refl)
  where
    pick : (a ≡ b → ⊥) → (x : Bool) → eq_tree a b ≡ x → eq_tree a b ≡ false
    pick n true e = absurd (n (eq_tree-sound a b e))
    pick n false e = e

-- what references mean
pub tree-none : (t y : List ℕ) (r : ℕ) → r ≡ 0 → tree_of t y r ≡ none
unfolding tree_of tree_at
tree-none t y r e = rw e (below_none (tree t y) none 0)

kid_at : (t y : List ℕ) (n r : ℕ) → tree_at t y n r ≡ tree_of t y (cond (leb r n) r 0)
unfolding tree_at tree_of
kid_at t y n r = pick (ℕ_discrete r 0) (dec_le r n)
  where
    pick : Dec (r ≡ 0) → Dec (r ≤ n) → tree_at t y n r ≡ tree_of t y (cond (leb r n) r 0)
    pick (yes z) d = rw (z, le-leb 0 n (omega arith)) (below_none (tree t y) none n ∙ sym (below_none (tree t y) none 0))
    pick (no z) (no h) = let g : n < r = omega (arith, h) in rw (lt-leb r n g) (below-past (tree t y) none n r g ∙ sym (below_none (tree t y) none 0))
    pick (no z) (yes h) = let e : r ≡ (r - 1) + 1 = omega (arith, z) in
        rw (le-leb r n h) (ap (below (tree t y) none n) e ∙ below_at (tree t y) none n (r - 1) (omega (arith, z))
        ∙ sym (ap (below (tree t y) none r) e ∙ below_at (tree t y) none r (r - 1) (omega (arith, z))))

abbrev pub node_is : List ℕ → List ℕ → ℕ → Tree
node_is t y n = node (cell_of t n 0) (numbers_of t n) (bytes_of t y n) (tree_of t y (kid_of t n 4)) (tree_of t y (kid_of t n 5)) (tree_of t y (kid_of t n 6))

pub tree_is : (t y : List ℕ) (r : ℕ) → 1 ≤ r → tree_of t y r ≡ node_is t y (r - 1)
unfolding tree_of tree_at tree kid_of
tree_is t y r h =
    let e : r ≡ (r - 1) + 1 = omega arith in
    ap (below (tree t y) none r) e ∙ below_at (tree t y) none r (r - 1) (omega arith)
    ∙ rw (kid_at t y (r - 1) (cell_of t (r - 1) 4), kid_at t y (r - 1) (cell_of t (r - 1) 5), kid_at t y (r - 1) (cell_of t (r - 1) 6))

-- what references to the first n nodes mean is told by their cells
module _ (t t' y : List ℕ) where
  abbrev Agree : ℕ → Type 0
  Agree n = (m j : ℕ) → m < n → cell_of t' m j ≡ cell_of t m j

  numbers-kept : (n m : ℕ) → Agree n → m < n → numbers_of t' m ≡ numbers_of t m
  unfolding numbers_of
  numbers-kept n m h g = rw (h m 0 g, h m 7 g, h m 8 g, h m 9 g, h m 10 g)

  bytes-kept : (n m : ℕ) → Agree n → m < n → bytes_of t' y m ≡ bytes_of t y m
  unfolding bytes_of
  bytes-kept n m h g = rw (h m 0 g, h m 7 g, h m 8 g)

  at-kept : (n r : ℕ) → Agree n → tree_at t' y n r ≡ tree_at t y n r
  unfolding tree_at below tree
  at-kept zero r h = refl
  at-kept (suc k) r h =
      let g : k < suc k = omega arith in
      let kid : (x : ℕ) → tree_at t' y k x ≡ tree_at t y k x = λ x. at-kept k x (λ m j l. h m j (omega arith)) in
      rw (h k 0 g, h k 4 g, h k 5 g, h k 6 g, numbers-kept (suc k) k h g, bytes-kept (suc k) k h g, kid (cell_of t k 4), kid (cell_of t k 5), kid (cell_of t k 6), kid r)

  pub tree-kept : (n : ℕ) → ((m j : ℕ) → m < n → cell_of t' m j ≡ cell_of t m j) → (r : ℕ) → r ≤ n → tree_of t' y r ≡ tree_of t y r
  unfolding tree_of
  tree-kept n h r g = at-kept r r (λ m j l. h m j (omega arith))
