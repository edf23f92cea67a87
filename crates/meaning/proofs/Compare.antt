-- Two references compared, by their nodes. Assumes nothing.
use Prim.Native.Nat.{ℕ, ◌-◌, ◌≤◌}
use mathlib.Core.Bool.{Bool, true, false, ◌&&◌}
use mathlib.Core.Path.{◌≡◌, refl, sym, ap, ap₂, ◌∙◌}
use mathlib.Core.List.{List}
use native.Mathlib.Decide.{ℕ_discrete}
use native.Mathlib.Omega.{arith}
use lib.Dec.{eqb}
use borrow.Author.Tests.{eq-eqb, ne_eqb, eqb-true}
use Rattle.meaning.specs.Tree.{tree_of, kid_of, eq_tree, eq_own, eq_kids, eq_numbers, eq_but_first}
use Rattle.std.specs.Prelude.{Result, Ok, Err}
use Rattle.meaning.specs.declared.Unequal.{Unequal}
use Rattle.meaning.specs.declared.Unequal.TheVariants.{Differ}
use Rattle.meaning.specs.Links.{Judged}
use Rattle.meaning.proofs.Trees.{and_both, eq_tree-refl, eq_tree-sound, tree-none, tree_is}
use Rattle.meaning.proofs.Own.{own_equal}

and-false : (a : Bool) → a && false ≡ false
and-false true = refl
and-false false = refl

and-turn : (a b c : Bool) → a && (b && c) ≡ b && (a && c)
and-turn true b c = refl
and-turn false b c = sym (and-false b)

-- one after the other
pub and-all : (a b c : Bool) {z : Bool} → a ≡ true → b ≡ true → z ≡ c → z ≡ a && (b && c)
and-all a b c p q r = rw (p, q) r

pub rest-not-own : (t y : List ℕ) (i j : ℕ) → eq_own t y i j ≡ false → false ≡ eq_but_first t y i j
rest-not-own t y i j p = rw p

pub rest-not-second : (t y : List ℕ) (i j : ℕ) → eq_tree (tree_of t y (kid_of t i 5)) (tree_of t y (kid_of t j 5)) ≡ false → false ≡ eq_but_first t y i j
rest-not-second t y i j p = rw p (sym (and-false (eq_own t y i j)))

and-true : (a : Bool) → a && true ≡ a
and-true true = refl
and-true false = refl

-- judged at once
pub judged-no : {A : Type 0} {e : Bool} → e ≡ false → Judged {A = A} e (Err Differ)
judged-no p = record { no = λ z. p; yes = λ x z. absurd (cc) }

pub judged-yes : {A : Type 0} {e : Bool} {x : A} → e ≡ true → Judged e (Ok x)
judged-yes p = record { no = λ z. absurd (cc); yes = λ x z. p }

pub at_same : (t y : List ℕ) {r q s p : ℕ} → r ≡ s → q ≡ p → eq_tree (tree_of t y r) (tree_of t y q) ≡ eq_tree (tree_of t y s) (tree_of t y p)
at_same t y = ap₂ (λ r q. eq_tree (tree_of t y r) (tree_of t y q))

module _ (t y : List ℕ) (r q : ℕ) where
  pub same_place : r ≡ q → eq_tree (tree_of t y r) (tree_of t y q) ≡ true
  same_place e = ap (λ x. eq_tree (tree_of t y r) (tree_of t y x)) (sym e) ∙ eq_tree-refl (tree_of t y r)

  pub same_none : r ≡ 0 → (r ≡ q → ⊥) → eq_tree (tree_of t y r) (tree_of t y q) ≡ false
  unfolding eq_tree
  same_none z n = rw (tree-none t y r z, tree_is t y q (omega (arith, n)))

  pub same-one : q ≡ 0 → (r ≡ q → ⊥) → eq_tree (tree_of t y r) (tree_of t y q) ≡ false
  unfolding eq_tree
  same-one z n = rw (tree-none t y q z, tree_is t y r (omega (arith, n)))

  -- one of them is none
  module _ (z : 1 ≤ r → 1 ≤ q → ⊥) where
    pub not-both : (r ≡ q → ⊥) → eq_tree (tree_of t y r) (tree_of t y q) ≡ false
    not-both n = pick (ℕ_discrete r 0)
      where
        pick : Dec (r ≡ 0) → eq_tree (tree_of t y r) (tree_of t y q) ≡ false
        pick (yes e) = same_none e n
        pick (no m) = same-one (omega (arith, m, z)) n

    pub one-none : eqb r q ≡ eq_tree (tree_of t y r) (tree_of t y q)
    one-none = pick (ℕ_discrete r q)
      where
        pick : Dec (r ≡ q) → eqb r q ≡ eq_tree (tree_of t y r) (tree_of t y q)
        pick (yes e) = eq-eqb r q e ∙ sym (same_place e)
        pick (no n) = ne_eqb r q n ∙ sym (not-both n)

  -- references of equal meaning that differ name nodes, and so do their first references
  pub tree-low : tree_of t y r ≡ tree_of t y q → (r ≡ q → ⊥) → (1 ≤ r) × (1 ≤ q)
  tree-low e n = pick (ℕ_discrete r 0) (ℕ_discrete q 0)
    where
      odd : {A : Type 0} → eq_tree (tree_of t y r) (tree_of t y q) ≡ false → A
      odd f = let g : eq_tree (tree_of t y r) (tree_of t y q) ≡ true = ap (eq_tree (tree_of t y r)) (sym e) ∙ eq_tree-refl (tree_of t y r) in
          let z : ◌≡◌ {A = ℕ} 0 1 = cc in absurd (omega arith)

      pick : Dec (r ≡ 0) → Dec (q ≡ 0) → (1 ≤ r) × (1 ≤ q)
      pick (yes z) d = odd (same_none z n)
      pick (no z) (yes h) = odd (same-one h n)
      pick (no z) (no h) = (omega (arith, z), omega (arith, h))

  pub kid-same : {a d : ℕ} → 1 ≤ r → 1 ≤ q → a ≡ kid_of t (r - 1) 4 → d ≡ kid_of t (q - 1) 4 → tree_of t y r ≡ tree_of t y q → tree_of t y a ≡ tree_of t y d
  kid-same hr hq ea ed e = let n = sym (tree_is t y r hr) ∙ e ∙ tree_is t y q hq in
      let k : tree_of t y (kid_of t (r - 1) 4) ≡ tree_of t y (kid_of t (q - 1) 4) = cc in
      ap (tree_of t y) ea ∙ k ∙ sym (ap (tree_of t y) ed)

-- two nodes: what they hold themselves, o, and what their references mean; the first are a and d, as the code has them
module _ (t y : List ℕ) {r q a d : ℕ} {o : Bool} (hr : 1 ≤ r) (hq : 1 ≤ q) (eo : o ≡ eq_own t y (r - 1) (q - 1)) (ea : a ≡ kid_of t (r - 1) 4) (ed : d ≡ kid_of t (q - 1) 4) where
  abbrev first : Bool
  first = eq_tree (tree_of t y a) (tree_of t y d)

  abbrev second : Bool
  second = eq_tree (tree_of t y (kid_of t (r - 1) 5)) (tree_of t y (kid_of t (q - 1) 5))

  abbrev third : Bool
  third = eq_tree (tree_of t y (kid_of t (r - 1) 6)) (tree_of t y (kid_of t (q - 1) 6))

  step : eq_tree (tree_of t y r) (tree_of t y q) ≡ o && (first && (second && third))
  unfolding eq_tree eq_own
  step = ap₂ eq_tree (tree_is t y r hr) (tree_is t y q hq) ∙ rw (ea, ed, eo)

  pub not_own : o ≡ false → eq_tree (tree_of t y r) (tree_of t y q) ≡ false
  not_own z = step ∙ rw z

  module _ (ok : o ≡ true) where
    -- by what the references are
    pub all_same : a ≡ d → kid_of t (r - 1) 5 ≡ kid_of t (q - 1) 5 → kid_of t (r - 1) 6 ≡ kid_of t (q - 1) 6 → tree_of t y r ≡ tree_of t y q
    all_same e f g = eq_tree-sound _ _ (step ∙ rw (ok, same_place t y a d e, same_place t y _ _ f) (same_place t y _ _ g))

    -- within a budget: one after the other
    module _ {A : Type 0} where
      pub judged-first : {x : Unequal} {v : Result A Unequal} → v ≡ Err x → Judged {A = ℕ} first (Err x) → Judged (eq_tree (tree_of t y r) (tree_of t y q)) v
      judged-first e j = record { no = λ z. step ∙ rw (ok, j.no cc); yes = λ y z. absurd (cc) }

      module _ (p : first ≡ true) where
        pub judged-second : {x : Unequal} {v : Result A Unequal} → v ≡ Err x → Judged {A = ℕ} second (Err x) → Judged (eq_tree (tree_of t y r) (tree_of t y q)) v
        judged-second e j = record { no = λ z. step ∙ rw (ok, p, j.no cc); yes = λ y z. absurd (cc) }

        pub judged-third : {v : Result A Unequal} → second ≡ true → Judged third v → Judged (eq_tree (tree_of t y r) (tree_of t y q)) v
        judged-third h j = record { no = λ z. step ∙ rw (ok, p, h) (j.no z); yes = λ x z. step ∙ rw (ok, p, h) (j.yes x z) }

  -- with links: all but the first, and then on along the first
  but-first : eq_tree (tree_of t y r) (tree_of t y q) ≡ first && eq_but_first t y (r - 1) (q - 1)
  but-first = step ∙ rw eo (and-turn _ first (second && third))

  module _ {x : Bool} (p : x ≡ eq_but_first t y (r - 1) (q - 1)) where
    pub not-rest : x ≡ false → eq_tree (tree_of t y r) (tree_of t y q) ≡ false
    not-rest z = but-first ∙ rw (sym p ∙ z) (and-false first)

    pub go_on : x ≡ true → eq_tree (tree_of t y r) (tree_of t y q) ≡ first
    go_on z = but-first ∙ rw (sym p ∙ z) (and-true first)

pub judged-is : {A : Type 0} {e x : Bool} {v : Result A Unequal} → e ≡ x → Judged e v → Judged x v
judged-is p j = record { no = λ z. sym p ∙ j.no z; yes = λ y z. sym p ∙ j.yes y z }

-- told by cells alone
pub cells-same : (t y : List ℕ) (r q : ℕ) → 1 ≤ r → 1 ≤ q → eq_kids t (r - 1) (q - 1) ≡ true → eq_numbers t (r - 1) (q - 1) ≡ true → tree_of t y r ≡ tree_of t y q
cells-same t y r q hr hq k n =
    let a = and_both _ _ k in
    let b = and_both _ _ a.1 in
    all_same t y hr hq refl refl refl (own_equal t y (r - 1) (q - 1) n) (eqb-true _ _ a.0) (eqb-true _ _ b.0) (eqb-true _ _ b.1)
