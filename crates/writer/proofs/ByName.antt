-- The texts of names, by kind. Assumes nothing.
use Prim.Native.Nat.{ℕ, ◌-◌, ◌≤◌, ◌<◌}
use mathlib.Core.Bool.{Bool, true, false}
use mathlib.Core.Logic.{◌⊎◌}
use mathlib.Core.Path.{◌≡◌, refl, sym, ap, ap₂, ◌∙◌}
use mathlib.Core.List.{List}
use native.Mathlib.Decide.{ℕ_discrete}
use native.Mathlib.Omega.{arith}
use lib.Dec.{eqb}
use borrow.Author.Tests.{eq-eqb, ne_eqb}
use Rattle.scan.specs.Bytes.{pick}
use Rattle.node.specs.Cells.{cell_of}
use Rattle.meaning.specs.Tree.{Tree, node, content_of, bytes_of, part, tree_of, kid_of}
use Rattle.meaning.proofs.Trees.{tree-none, tree_is}
use Rattle.text.specs.Emit.{Text, none, put, ◌⨾◌, when, unless}
use Rattle.text.specs.Spaces.{or, write_space, space_where, after_close}
use Rattle.serializer.specs.Serializer.{p, q, kind_of, is_empty, is_literal, no_cast, serialize, write_pre, write_post, write_name, write_name_space, write_cast, write_scope, write_first, write_parsed, write_one_name, write_own_name, write_own_operator, write_spaced_operator, write_plain_name, write_tmpl_params}
use Rattle.serializer.specs.Lists.{first_entry, last_entry, entry_after, last_ones}
use Rattle.serializer.specs.Pieces.{cast_of}
use Rattle.serializer.proofs.Nodes.{numbers_at, node_at, not-empty, empty-none}
use Rattle.writer.proofs.ByType.{outside}
use Rattle.node.specs.Kind.{kind_number, Anonymous, AnonymousId, AsInterface, ConstantString, Md5, MemberFunction, NonTemplate, Operator, ParseResult, ParsedName, RttiBaseClassDescriptor, RttiTypeDescriptor, Template}

pub or-false : (e : Bool) → or e false ≡ e
or-false true = refl
or-false false = refl

-- a reference is empty where it is 0
pub empty-is : (t y : List ℕ) (r : ℕ) → is_empty (tree_of t y r) ≡ eqb r 0
empty-is t y r = go (ℕ_discrete r 0)
  where
    go : Dec (r ≡ 0) → is_empty (tree_of t y r) ≡ eqb r 0
    go (yes e) = empty-none t y e ∙ sym (eq-eqb r 0 e)
    go (no n) = not-empty t y (omega (arith, n)) ∙ sym (ne_eqb r 0 n)

-- no reference, no text
module _ (f : ℕ) (t y : List ℕ) {r : ℕ} (e : r ≡ 0) where
  pub one_none : write_one_name f (tree_of t y r) ≡ none
  unfolding write_one_name
  one_none = ap (write_one_name f) (tree-none t y r e)

  pub scope-none : write_scope f (tree_of t y r) ≡ none
  unfolding write_scope
  scope-none = ap (write_scope f) (tree-none t y r e)

  pub name-none : (g : ℕ) (cast : Text) → write_name f g cast (tree_of t y r) ≡ none
  unfolding write_name
  name-none g cast = ap (write_name f g cast) (tree-none t y r e)

  pub own-none : (g : ℕ) (cast : Text) (alone : Bool) (first one parsed : Text) → write_own_name g cast alone first (tree_of t y r) one parsed ≡ none
  unfolding write_own_name
  own-none g cast alone first one parsed = ap (λ T. write_own_name g cast alone first T one parsed) (tree-none t y r e)

  pub ones_none : (n : ℕ) → last_ones f (tree_of t y r) n ≡ none
  unfolding last_ones
  ones_none n = ap (λ T. last_ones f T n) (tree-none t y r e)

  pub entry-none : last_entry f (tree_of t y r) ≡ none
  unfolding last_entry
  entry-none = ap (last_entry f) (tree-none t y r e)

-- the node that r names, whatever its kind
module _ (f : ℕ) (t y : List ℕ) {r a b : ℕ} (h : 0 < r) (ea : a ≡ kid_of t (r - 1) 4) (eb : b ≡ kid_of t (r - 1) 5) where
  pub entry-is : last_entry f (tree_of t y r) ≡ entry_after f (tree_of t y a) (tree_of t y b)
  unfolding last_entry
  entry-is = ap (last_entry f) (tree_is t y r h) ∙ rw (ea, eb)

  pub scope-is : write_scope f (tree_of t y r) ≡ write_one_name f (tree_of t y b) ⨾ unless (is_empty (tree_of t y a)) (put "::") ⨾ write_scope f (tree_of t y a)
  unfolding write_scope
  scope-is = ap (write_scope f) (tree_is t y r h) ∙ rw (ea, eb)

  pub name-is : (g : ℕ) (cast : Text) → write_name f g cast (tree_of t y r)
      ≡ write_name_space f ⨾ when (is_literal (tree_of t y a)) (write_space ⨾ put "operator \"\"") ⨾ write_scope f (tree_of t y b)
      ⨾ unless (or (is_empty (tree_of t y b)) (is_literal (tree_of t y a))) (put "::")
      ⨾ write_own_name g cast (is_empty (tree_of t y b)) (write_first f (tree_of t y b)) (tree_of t y a) (write_one_name f (tree_of t y a)) (write_parsed f (tree_of t y a))
  unfolding write_name
  name-is g cast = ap (write_name f g cast) (tree_is t y r h) ∙ rw (ea, eb)

-- a scope's first name
first_one : (f : ℕ) (T : Tree) → write_first f T ≡ write_one_name f (first_entry T)
unfolding write_first first_entry write_one_name
first_one f Tree.none = refl
first_one f (node k x s a b c) = go (is_empty a) (first_one f a)
  where
    go : (e : Bool) → write_first f a ≡ write_one_name f (first_entry a) → pick e (write_one_name f b) (write_first f a) ≡ write_one_name f (pick e b (first_entry a))
    go true i = refl
    go false i = i

pub first-is : (f : ℕ) (T : Tree) {n : Tree} → n ≡ first_entry T → write_first f T ≡ write_one_name f n
first-is f T e = first_one f T ∙ ap (write_one_name f) (sym e)

-- bytes of the symbol belong to kinds that write no number, and numbers to those that write no bytes
plain_by : (t y : List ℕ) (n k w x : ℕ) → cell_of t n 0 ≡ k → Dec (k ≡ kind_number Md5) → Dec (k ≡ kind_number NonTemplate) → Dec (k ≡ kind_number AsInterface) → Dec (k ≡ kind_number AnonymousId) → Dec (k ≡ kind_number ConstantString)
    → write_plain_name k (p (numbers_at k (cell_of t n 7) (cell_of t n 8) w x)) (bytes_of t y n) ≡ write_plain_name k (cell_of t n 7) (part y (cell_of t n 7) (cell_of t n 8))
unfolding write_plain_name content_of bytes_of
plain_by t y n k w x c (yes e) d₁ d₂ d₃ d₄ = rw (c ∙ e, e)
plain_by t y n k w x c (no m) (yes e) d₂ d₃ d₄ = rw (c ∙ e, e)
plain_by t y n k w x c (no m) (no l) (yes e) d₃ d₄ = rw (c ∙ e, e)
plain_by t y n k w x c (no m) (no l) (no i) (yes e) d₄ = rw (c ∙ e, e)
plain_by t y n k w x c (no m) (no l) (no i) (no j) (yes e) = rw (c ∙ e, e)
plain_by t y n k w x c (no m) (no l) (no i) (no j) (no z) = rw (c, ne_eqb k 6 m, ne_eqb k 10 l, ne_eqb k 11 i, ne_eqb k 15 j, ne_eqb k 27 z)

-- the node that r names, by its kind
module _ (f : ℕ) (t y : List ℕ) {r k : ℕ} (h : 0 < r) (e : k ≡ cell_of t (r - 1) 0) where
  pub one_plain : {u v : ℕ} → u ≡ cell_of t (r - 1) 7 → v ≡ cell_of t (r - 1) 8
      → (k ≡ kind_number Operator → ⊥) → (k ≡ kind_number RttiTypeDescriptor → ⊥) → (k ≡ kind_number RttiBaseClassDescriptor → ⊥) → (k ≡ kind_number Template → ⊥) → (k ≡ kind_number ParsedName → ⊥) → write_one_name f (tree_of t y r) ≡ write_plain_name k u (part y u v)
  unfolding write_one_name
  one_plain eu ev n₁ n₂ n₃ n₄ n₅ =
      ap (write_one_name f) (node_at t y h k e refl refl refl refl refl refl refl refl) ∙ rw (ne_eqb k 7 n₁, ne_eqb k 8 n₂, ne_eqb k 9 n₃, ne_eqb k 12 n₄, ne_eqb k 14 n₅)
      (plain_by t y (r - 1) k (cell_of t (r - 1) 9) (cell_of t (r - 1) 10) (sym e) (ℕ_discrete k 6) (ℕ_discrete k 10) (ℕ_discrete k 11) (ℕ_discrete k 15) (ℕ_discrete k 27)
      ∙ ap₂ (λ m n. write_plain_name k m (part y m n)) (sym eu) (sym ev))

  module _ (g : ℕ) (cast : Text) (alone : Bool) (first one : Text) where
    pub own-operator : {u : ℕ} (parsed : Text) → u ≡ cell_of t (r - 1) 7 → k ≡ kind_number Operator → write_own_name g cast alone first (tree_of t y r) one parsed ≡ write_own_operator g cast alone first u
    unfolding write_own_name content_of
    own-operator parsed eu q = ap (λ T. write_own_name g cast alone first T one parsed) (node_at t y h 7 e q refl refl refl eu refl refl refl)

    pub own-parsed : {a : ℕ} → a ≡ kid_of t (r - 1) 4 → k ≡ kind_number ParsedName → write_own_name g cast alone first (tree_of t y r) one (write_parsed f (tree_of t y r)) ≡ serialize f (tree_of t y a)
    unfolding write_own_name write_parsed
    own-parsed ea q = ap (λ T. write_own_name g cast alone first T one (write_parsed f T)) (node_at t y h 14 e q ea refl refl refl refl refl refl)

    pub own-anonymous : (parsed : Text) → kind_number AnonymousId ≤ k → k ≤ kind_number Anonymous → write_own_name g cast alone first (tree_of t y r) one parsed ≡ none
    unfolding write_own_name
    own-anonymous parsed l m = go (ℕ_discrete k 15)
      where
        go : Dec (k ≡ kind_number AnonymousId) → write_own_name g cast alone first (tree_of t y r) one parsed ≡ none
        go (yes q) = ap (λ T. write_own_name g cast alone first T one parsed) (node_at t y h 15 e q refl refl refl refl refl refl refl)
        go (no n) = ap (λ T. write_own_name g cast alone first T one parsed) (node_at t y h 16 e (omega (arith, n)) refl refl refl refl refl refl refl)

    pub own-rest : (parsed : Text) → (k ≡ kind_number Operator → ⊥) → (k ≡ kind_number ParsedName → ⊥) → (k < kind_number AnonymousId) ⊎ (kind_number Anonymous < k) → write_own_name g cast alone first (tree_of t y r) one parsed ≡ one
    unfolding write_own_name
    own-rest parsed n₁ n₂ n₃ =
        ap (λ T. write_own_name g cast alone first T one parsed) (node_at t y h k e refl refl refl refl refl refl refl refl)
        ∙ rw (ne_eqb k 7 n₁, ne_eqb k 14 n₂, ne_eqb k 15 (outside 15 n₃ (omega arith) (omega arith)), ne_eqb k 16 (outside 16 n₃ (omega arith) (omega arith)))

pub operator-rest : (g : ℕ) (cast : Text) (alone : Bool) (first : Text) (op : ℕ) → (op ≡ 0 → ⊥) → (op ≡ 1 → ⊥) → (op ≡ 11 → ⊥) → (op ≡ 44 → ⊥) → (op ≡ 68 → ⊥)
    → write_own_operator g cast alone first op ≡ write_spaced_operator g op
unfolding write_own_operator
operator-rest g cast alone first op n₁ n₂ n₃ n₄ n₅ = rw (ne_eqb op 0 n₁, ne_eqb op 1 n₂, ne_eqb op 44 n₄, ne_eqb op 11 n₃, ne_eqb op 68 n₅)

-- what a Conversion is called
pub cast_is : (f : ℕ) (t y : List ℕ) {r b : ℕ} → 0 < r → cell_of t (r - 1) 0 ≡ kind_number ParseResult → b ≡ kid_of t (r - 1) 5 → cast_of f (tree_of t y r) ≡ write_cast f (tree_of t y b)
unfolding cast_of
cast_is f t y h e eb = ap (cast_of f) (node_at t y h 3 refl e refl eb refl refl refl refl refl)

pub cast-other : (f : ℕ) (T : Tree) → (kind_of T ≡ kind_number MemberFunction → ⊥) → write_cast f T ≡ no_cast
unfolding write_cast
cast-other f Tree.none n = refl
cast-other f (node k x s a b c) n = rw (ne_eqb k 18 n)

pub cast-member : (f : ℕ) (t y : List ℕ) {r a : ℕ} → 0 < r → cell_of t (r - 1) 0 ≡ kind_number MemberFunction → a ≡ kid_of t (r - 1) 4
    → write_cast f (tree_of t y r) ≡ put "operator " ⨾ write_pre f (tree_of t y a) ⨾ write_post f (tree_of t y a)
unfolding write_cast
cast-member f t y h e ea = ap (write_cast f) (node_at t y h 18 refl e ea refl refl refl refl refl refl)

-- a template's parameters
pub tmpl-none : (T : Tree) (types : Text) → is_empty T ≡ true → write_tmpl_params T types ≡ put "<" ⨾ none ⨾ put ">"
unfolding write_tmpl_params
tmpl-none T types e = rw e

pub tmpl-some : (T : Tree) (types : Text) → is_empty T ≡ false → write_tmpl_params T types ≡ put "<" ⨾ (types ⨾ space_where after_close) ⨾ put ">"
unfolding write_tmpl_params
tmpl-some T types e = rw e
