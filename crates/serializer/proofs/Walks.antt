-- What a reference's node says of the list that it names, for walks along it; and of a name and a symbol's owner. Assumes nothing.
use Rattle.std.proofs.Common.{◌≡◌, ℕ, zero, suc, ◌-◌, ◌<◌, true, false, not, eqb, List, sym, refl, ap, ◌∙◌, arith, eq-eqb, ne_eqb}
use native.Mathlib.Decide.{ℕ_discrete}
use Rattle.meaning.specs.Tree.{Tree, node, content_of, tree_of, kid_of}
use Rattle.meaning.proofs.Trees.{tree-none, tree_is}
use Rattle.node.specs.Cells.{cell_of}
use Rattle.serializer.specs.Serializer.{kind_of, has_some, is_literal}
use Rattle.serializer.specs.Pieces.{guard_of}
use Rattle.serializer.specs.Lists.{is_pack, count_some, skip_packs, without_last, first_entry}
use Rattle.serializer.proofs.Nodes.{node_at, kind-is, not-empty, empty-none, kind-none}
use Rattle.serializer.proofs.Chain.{either, count-pack, count-more, skip-pack, skip-more, some-pack, some_more, without-pack, without_more}
use Rattle.node.specs.Kind.{kind_number, EmptyParameterPack, Operator, ParseResult}

skip-none : skip_packs Tree.none ≡ Tree.none
unfolding skip_packs
skip-none = refl

-- what an empty pack at a list's end does not change is the same of the list up to its last entry that is not one
skip-same : {A : Type 0} (f : Tree → A) → ((i : ℕ) (x s : List ℕ) (a b c : Tree) → is_pack b ≡ true → f (node i x s a b c) ≡ f a) → (t : Tree) → f (skip_packs t) ≡ f t
skip-same f same = either (λ t. f (skip_packs t) ≡ f t) (ap f skip-none)
    (λ i x s a b c h e. ap f (skip-pack i x s a b c e) ∙ h ∙ sym (same i x s a b c e))
    (λ i x s a b c h e. ap f (skip-more i x s a b c e))

-- p is the list t up to that entry
module _ (t : Tree) {p : Tree} (e : p ≡ skip_packs t) where
  pub count-skip : count_some t ≡ count_some p
  count-skip = sym (ap count_some e ∙ skip-same count_some count-pack t)

  pub some-skip : has_some t ≡ has_some p
  some-skip = sym (ap has_some e ∙ skip-same has_some some-pack t)

  pub without-skip : (i : ℕ) → 0 < i → without_last t i ≡ without_last p i
  without-skip (suc i) l = sym (ap (λ u. without_last u (suc i)) e ∙ skip-same (λ u. without_last u (suc i)) (λ k x s a b c q. without-pack k x s a b c q i) t)
  without-skip zero l = absurd (omega arith)

module _ (t y : List ℕ) where
  -- the empty list
  module _ {p : ℕ} (e : p ≡ 0) where
    pub skip-nil : skip_packs (tree_of t y p) ≡ tree_of t y p
    unfolding skip_packs
    skip-nil = rw (tree-none t y p e)

    pub count-nil : count_some (tree_of t y p) ≡ 0
    unfolding count_some
    count-nil = rw (tree-none t y p e)

    some-nil : has_some (tree_of t y p) ≡ false
    unfolding has_some
    some-nil = rw (tree-none t y p e)

    pub without-nil : (h : ℕ) → without_last (tree_of t y p) h ≡ Tree.none
    unfolding without_last
    without-nil h = rw (tree-none t y p e)

  -- the entry of node n
  module _ (n : ℕ) {b k : ℕ} (eb : b ≡ kid_of t n 5) (ek : k ≡ kind_of (tree_of t y b)) where
    pub pack-is : k ≡ kind_number EmptyParameterPack → is_pack (tree_of t y (kid_of t n 5)) ≡ true
    pack-is e = eq-eqb _ _ (ap (λ r. kind_of (tree_of t y r)) (sym eb) ∙ sym ek ∙ e)

    pub pack-not : (k ≡ kind_number EmptyParameterPack → ⊥) → is_pack (tree_of t y (kid_of t n 5)) ≡ false
    pack-not z = ne_eqb _ _ (λ q. z (ek ∙ ap (λ r. kind_of (tree_of t y r)) eb ∙ q))

  -- a list with a last place
  module _ {p : ℕ} (h : 0 < p) where
    pub skip-on : {a : ℕ} → a ≡ kid_of t (p - 1) 4 → is_pack (tree_of t y (kid_of t (p - 1) 5)) ≡ true → skip_packs (tree_of t y p) ≡ skip_packs (tree_of t y a)
    skip-on ea e = ap skip_packs (tree_is t y p h) ∙ skip-pack _ _ _ _ _ _ e ∙ ap (λ r. skip_packs (tree_of t y r)) (sym ea)

    module _ (e : is_pack (tree_of t y (kid_of t (p - 1) 5)) ≡ false) where
      pub skip_stop : skip_packs (tree_of t y p) ≡ tree_of t y p
      skip_stop = ap skip_packs (tree_is t y p h) ∙ skip-more _ _ _ _ _ _ e ∙ sym (tree_is t y p h)

      some_one : has_some (tree_of t y p) ≡ true
      some_one = ap has_some (tree_is t y p h) ∙ some_more _ _ _ _ _ _ e

      pub count-one : {a : ℕ} → a ≡ kid_of t (p - 1) 4 → count_some (tree_of t y p) ≡ suc (count_some (tree_of t y a))
      count-one ea = ap count_some (tree_is t y p h) ∙ count-more _ _ _ _ _ _ e ∙ ap (λ r. suc (count_some (tree_of t y r))) (sym ea)

      pub without-one : {a : ℕ} → a ≡ kid_of t (p - 1) 4 → (i : ℕ) → 0 < i → without_last (tree_of t y p) i ≡ without_last (tree_of t y a) (i - 1)
      without-one ea (suc i) l = let n : suc i - 1 ≡ i = omega arith in
          rw (n, ea) (ap (λ u. without_last u (suc i)) (tree_is t y p h) ∙ without_more _ _ _ _ _ _ e i)
      without-one ea zero l = absurd (omega arith)

  -- whether a list that ends in no empty pack has an entry
  pub some-test : (p : ℕ) → (0 < p → is_pack (tree_of t y (kid_of t (p - 1) 5)) ≡ false) → has_some (tree_of t y p) ≡ not (eqb p 0)
  some-test p more = by (ℕ_discrete p 0)
    where
      by : Dec (p ≡ 0) → has_some (tree_of t y p) ≡ not (eqb p 0)
      by (yes z) = rw (eq-eqb p 0 z) (some-nil z)
      by (no z) = let h : 0 < p = omega (arith, z) in rw (ne_eqb p 0 z) (some_one h (more h))

  -- a list's first entry
  module _ {p a : ℕ} (h : 0 < p) (ea : a ≡ kid_of t (p - 1) 4) where
    pub first-here : {b : ℕ} → a ≡ 0 → b ≡ kid_of t (p - 1) 5 → first_entry (tree_of t y p) ≡ tree_of t y b
    unfolding first_entry
    first-here z eb = rw (tree_is t y p h, sym ea, empty-none t y z, eb)

    pub first_on : 0 < a → first_entry (tree_of t y p) ≡ first_entry (tree_of t y a)
    unfolding first_entry
    first_on l = rw (tree_is t y p h, sym ea, not-empty t y l)

  -- what has a kind is a node
  module _ (r : ℕ) {k : ℕ} (ek : k ≡ kind_of (tree_of t y r)) where
    pub kind-low : 0 < k → 0 < r
    kind-low l = by (ℕ_discrete r 0)
      where
        by : Dec (r ≡ 0) → 0 < r
        by (yes z) = let e : k ≡ 0 = ek ∙ kind-none t y z in absurd (omega arith)
        by (no z) = omega (arith, z)

    pub literal-is : {u : ℕ} → k ≡ kind_number Operator → u ≡ cell_of t (r - 1) 7 → is_literal (tree_of t y r) ≡ eqb u 68
    unfolding is_literal content_of
    literal-is e eu = let h = kind-low (omega arith) in rw (node_at t y h 7 (ek ∙ kind-is t y h refl) e refl refl refl eu refl refl refl)

    pub guard-is : {u : ℕ} → k ≡ kind_number ParseResult → u ≡ cell_of t (r - 1) 7 → guard_of (tree_of t y r) ≡ u
    unfolding guard_of content_of
    guard-is e eu = let h = kind-low (omega arith) in rw (node_at t y h 3 (ek ∙ kind-is t y h refl) e refl refl refl eu refl refl refl)

-- what is of another kind
pub literal-not : (t : Tree) {k : ℕ} → k ≡ kind_of t → (k ≡ kind_number Operator → ⊥) → is_literal t ≡ false
unfolding is_literal
literal-not Tree.none e n = refl
literal-not (node k x s a b c) e n = rw (ne_eqb k 7 (λ q. n (e ∙ q)))

pub guard-not : (t : Tree) {k : ℕ} → k ≡ kind_of t → (k ≡ kind_number ParseResult → ⊥) → guard_of t ≡ 0
unfolding guard_of
guard-not Tree.none e n = refl
guard-not (node k x s a b c) e n = rw (ne_eqb k 3 (λ q. n (e ∙ q)))
