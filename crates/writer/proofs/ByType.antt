-- The texts of types, by kind. Assumes nothing.
use Prim.Native.Nat.{ℕ, ◌-◌, ◌≤◌, ◌<◌}
use mathlib.Core.Bool.{Bool, true, false}
use mathlib.Core.Logic.{◌⊎◌, inl, inr}
use mathlib.Core.Path.{◌≡◌, refl, sym, ap, ap₂, ◌∙◌}
use mathlib.Core.List.{List, []}
use native.Mathlib.Decide.{ℕ_discrete}
use native.Mathlib.Omega.{arith}
use borrow.Author.Tests.{ne_eqb}
use Rattle.scan.specs.Bytes.{pick}
use Rattle.scan.proofs.Laws.{on-range}
use Rattle.node.specs.Cells.{cell_of}
use Rattle.meaning.specs.Tree.{Tree, node, content_of, bytes_of, tree_of, kid_of}
use Rattle.meaning.proofs.Trees.{tree-none, tree_is}
use Rattle.text.specs.Emit.{Text, none, lit, put, ◌⨾◌, Wrote, unless}
use Rattle.text.specs.Spaces.{write_space}
use Rattle.text.proofs.Seq.{none-seq, writes-none}
use Rattle.serializer.specs.Flags.{has, NAME_ONLY, NO_CLASS_TYPE}
use Rattle.serializer.specs.Serializer.{p, q, kind_of, no_return, no_cast, serialize, write_pre, write_post, write_return, write_pointee, write_opening, write_hug, write_storage_class, write_plain, write_name, write_closing, write_types, write_memfn_qualifiers}
use Rattle.serializer.specs.Pieces.{mark, class_name, guard_of, cast_of}
use Rattle.serializer.proofs.Nodes.{numbers_at, node_at}
use Rattle.serializer.proofs.Walks.{guard-not}
use Rattle.node.specs.Kind.{kind_number, Alias, AnonymousId, Array, AsInterface, CXXVBTable, CXXVFTable, ConstantString, Enum, Md5, MemberFunction, MemberFunctionPointer, NonMemberFunction, NonTemplate, ParseResult, Ptr, RValueRef, Struct, VCallThunk, Var}

-- what is asked for, and what is not
pub unless_not : {G : Type 0} {b b' : List ℕ} {o o' : ℕ} {g g' : G} (e : Bool) (T : Text) → e ≡ false → Wrote T b o b' o' × (g' ≡ g) → Wrote (unless e T) b o b' o' × (g' ≡ g)
unless_not e T h w = rw h w

pub unless-so : {G : Type 0} {b : List ℕ} {o : ℕ} {g : G} (e : Bool) (T : Text) → e ≡ true → Wrote (unless e T) b o b o × (g ≡ g)
unless-so e T h = rw h writes-none

-- a number outside a range is none of it
pub outside : {k low high : ℕ} (j : ℕ) → (k < low) ⊎ (high < k) → low ≤ j → j ≤ high → k ≡ j → ⊥
outside j (inl h) l m e = omega (arith, h, l, e)
outside j (inr h) l m e = omega (arith, h, m, e)

-- only a ParseResult is serialized, and gives a guard and a type
pub serialize-not : (f : ℕ) (T : Tree) → (kind_of T ≡ kind_number ParseResult → ⊥) → serialize f T ≡ none
unfolding serialize
serialize-not f Tree.none n = refl
serialize-not f (node k x s a b c) n = rw (ne_eqb k 3 n)

pub cast-not : (f : ℕ) (T : Tree) → (kind_of T ≡ kind_number ParseResult → ⊥) → cast_of f T ≡ no_cast
unfolding cast_of
cast-not f Tree.none n = refl
cast-not f (node k x s a b c) n = rw (ne_eqb k 3 n)

pub kind-cell : (t y : List ℕ) (r : ℕ) → 0 < r → kind_of (tree_of t y r) ≡ cell_of t (r - 1) 0
kind-cell t y r h = ap kind_of (tree_is t y r h)

-- a ParseResult
pub serialize-is : (f : ℕ) (t y : List ℕ) {r a b : ℕ} → 0 < r → cell_of t (r - 1) 0 ≡ kind_number ParseResult → a ≡ kid_of t (r - 1) 4 → b ≡ kid_of t (r - 1) 5
    → serialize f (tree_of t y r) ≡ unless (no_return f) (write_pre f (tree_of t y b)) ⨾ write_name f (guard_of (tree_of t y r)) (cast_of f (tree_of t y r)) (tree_of t y a) ⨾ unless (has f NAME_ONLY) (write_post f (tree_of t y b))
unfolding serialize guard_of cast_of content_of
serialize-is f t y {r} {a} {b} h e ea eb = rw (node_at t y h 3 refl e ea eb refl refl refl refl refl)

-- numbers that are a place in the symbol belong to kinds that write none
plain_by : (f k u v w x : ℕ) → Dec (k ≡ kind_number Md5) → Dec (k ≡ kind_number NonTemplate) → Dec (k ≡ kind_number AsInterface) → Dec (k ≡ kind_number AnonymousId) → Dec (k ≡ kind_number ConstantString)
    → write_plain f k (p (numbers_at k u v w x)) (q (numbers_at k u v w x)) ≡ write_plain f k u v
unfolding write_plain content_of
plain_by f k u v w x (yes e) d₁ d₂ d₃ d₄ = rw e
plain_by f k u v w x (no m) (yes e) d₂ d₃ d₄ = rw e
plain_by f k u v w x (no m) (no n) (yes e) d₃ d₄ = rw e
plain_by f k u v w x (no m) (no n) (no i) (yes e) d₄ = rw e
plain_by f k u v w x (no m) (no n) (no i) (no j) (yes e) = rw e
plain_by f k u v w x (no m) (no n) (no i) (no j) (no l) = rw (ne_eqb k 6 m, ne_eqb k 10 n, ne_eqb k 11 i, ne_eqb k 15 j, ne_eqb k 27 l)

plain-content : (f k u v w x : ℕ) → write_plain f k (p (numbers_at k u v w x)) (q (numbers_at k u v w x)) ≡ write_plain f k u v
plain-content f k u v w x = plain_by f k u v w x (ℕ_discrete k 6) (ℕ_discrete k 10) (ℕ_discrete k 11) (ℕ_discrete k 15) (ℕ_discrete k 27)

-- an Alias has no word of its own
class-alias : (f : ℕ) → class_name f 33 ≡ none
unfolding class_name lit none
class-alias f = go (has f NO_CLASS_TYPE)
  where
    go : (e : Bool) → ◌≡◌ {A = Text} (pick e (λ l. []) (λ l. [])) (λ l. [])
    go true = refl
    go false = refl

class-words : (f k u v w x : ℕ) (s : List ℕ) (a b c : Tree) → kind_number Struct ≤ k → k ≤ kind_number Enum
    → write_pre f (node k (numbers_at k u v w x) s a b c) ≡ class_name f k ⨾ write_name f 0 no_cast a ⨾ write_storage_class f u
unfolding write_pre class_name content_of
class-words f k u v w x s a b c l m =
    on-range 34 4 (λ K. write_pre f (node K (numbers_at K u v w x) s a b c)) (λ K. class_name f K ⨾ write_name f 0 no_cast a ⨾ write_storage_class f u) refl k l (omega arith)

class-by : (f k u v w x : ℕ) (s : List ℕ) (a b c : Tree) → Dec (k ≡ kind_number Alias) → kind_number Alias ≤ k → k ≤ kind_number Enum
    → write_pre f (node k (numbers_at k u v w x) s a b c) ≡ class_name f k ⨾ write_name f 0 no_cast a ⨾ write_storage_class f u
unfolding write_pre content_of
class-by f k u v w x s a b c (yes e) l m =
    ap (λ K. write_pre f (node K (numbers_at K u v w x) s a b c)) e ∙ sym (none-seq (write_name f 0 no_cast a ⨾ write_storage_class f u))
    ∙ ap (λ z. z ⨾ write_name f 0 no_cast a ⨾ write_storage_class f u) (sym (class-alias f)) ∙ ap (λ K. class_name f K ⨾ write_name f 0 no_cast a ⨾ write_storage_class f u) (sym e)
class-by f k u v w x s a b c (no n) l m = class-words f k u v w x s a b c (omega (arith, n)) m

-- the node that r names
module _ (f : ℕ) (t y : List ℕ) {r k : ℕ} (h : 0 < r) (e : k ≡ cell_of t (r - 1) 0) where
  pub pre-plain : {u v : ℕ} → u ≡ cell_of t (r - 1) 7 → v ≡ cell_of t (r - 1) 8
      → (k ≡ kind_number MemberFunction → ⊥) → (k ≡ kind_number MemberFunctionPointer → ⊥) → (k ≡ kind_number NonMemberFunction → ⊥) → (k ≡ kind_number Array → ⊥) → (k ≡ kind_number Var → ⊥) → (k < kind_number Ptr) ⊎ (kind_number Enum < k)
      → write_pre f (tree_of t y r) ≡ write_plain f k u v
  unfolding write_pre
  pre-plain {u} {v} eu ev n₁ n₂ n₃ n₅ n₆ n₇ =
      ap (write_pre f) (node_at t y h k e refl refl refl refl eu ev refl refl)
      ∙ rw (
        ne_eqb k 18 n₁,
        ne_eqb k 19 n₂,
        ne_eqb k 20 n₃,
        ne_eqb k 28 (outside 28 n₇ (omega arith) (omega arith)),
        ne_eqb k 29 (outside 29 n₇ (omega arith) (omega arith)),
        ne_eqb k 30 (outside 30 n₇ (omega arith) (omega arith)),
        ne_eqb k 31 n₅,
        ne_eqb k 32 n₆,
        ne_eqb k 33 (outside 33 n₇ (omega arith) (omega arith)),
        ne_eqb k 34 (outside 34 n₇ (omega arith) (omega arith)),
        ne_eqb k 35 (outside 35 n₇ (omega arith) (omega arith)),
        ne_eqb k 36 (outside 36 n₇ (omega arith) (omega arith)),
        ne_eqb k 37 (outside 37 n₇ (omega arith) (omega arith)),
      )
      (plain-content f k u v (cell_of t (r - 1) 9) (cell_of t (r - 1) 10))

  module _ {a u : ℕ} (ea : a ≡ kid_of t (r - 1) 4) (eu : u ≡ cell_of t (r - 1) 7) where
    pub pre-pointer : kind_number Ptr ≤ k → k ≤ kind_number RValueRef
        → write_pre f (tree_of t y r) ≡ write_pointee f (tree_of t y a) (write_pre f (tree_of t y a)) (write_return f (tree_of t y a)) ⨾ write_hug f ⨾ mark k ⨾ write_storage_class f u
    unfolding write_pre mark content_of
    pre-pointer l m =
        ap (write_pre f) (node_at t y h k e refl ea refl refl eu refl refl refl)
        ∙ on-range 28 3 (λ K. write_pre f (node K (numbers_at K u (cell_of t (r - 1) 8) (cell_of t (r - 1) 9) (cell_of t (r - 1) 10)) (bytes_of t y (r - 1)) (tree_of t y a) (tree_of t y (kid_of t (r - 1) 5)) (tree_of t y (kid_of t (r - 1) 6))))
        (λ K. write_pointee f (tree_of t y a) (write_pre f (tree_of t y a)) (write_return f (tree_of t y a)) ⨾ write_hug f ⨾ mark K ⨾ write_storage_class f u) refl k l (omega arith)

    pub pre-class : kind_number Alias ≤ k → k ≤ kind_number Enum
        → write_pre f (tree_of t y r) ≡ class_name f k ⨾ write_name f (guard_of (tree_of t y r)) (cast_of f (tree_of t y r)) (tree_of t y a) ⨾ write_storage_class f u
    pre-class l m =
        let other : kind_of (tree_of t y r) ≡ kind_number ParseResult → ⊥ = λ z. omega (arith, z, kind-cell t y r h, e, l) in
        ap (write_pre f) (node_at t y h k e refl ea refl refl eu refl refl refl)
        ∙ class-by f k u (cell_of t (r - 1) 8) (cell_of t (r - 1) 9) (cell_of t (r - 1) 10) (bytes_of t y (r - 1)) (tree_of t y a) (tree_of t y (kid_of t (r - 1) 5)) (tree_of t y (kid_of t (r - 1) 6)) (ℕ_discrete k 33) l m
        ∙ ap₂ (λ g c. class_name f k ⨾ write_name f g c (tree_of t y a) ⨾ write_storage_class f u) (sym (guard-not (tree_of t y r) refl other)) (sym (cast-not f (tree_of t y r) other))

  -- what is pointed to: a function, an array, or another type
  module _ {a v : ℕ} (ea : a ≡ kid_of t (r - 1) 4) (ev : v ≡ cell_of t (r - 1) 8) where
    abbrev Pointee : Type 0
    Pointee = write_pointee f (tree_of t y r) (write_pre f (tree_of t y r)) (write_return f (tree_of t y r)) ≡ write_pre f (tree_of t y a) ⨾ write_opening f v

    pub pointee-member : k ≡ kind_number MemberFunction → Pointee
    unfolding write_pointee write_return content_of
    pointee-member q = ap (λ T. write_pointee f T (write_pre f T) (write_return f T)) (node_at t y h 18 e q ea refl refl refl ev refl refl)

    pub pointee-function : k ≡ kind_number NonMemberFunction → Pointee
    unfolding write_pointee write_return content_of
    pointee-function q = ap (λ T. write_pointee f T (write_pre f T) (write_return f T)) (node_at t y h 20 e q ea refl refl refl ev refl refl)

  pub pointee-array : (first returned : Text) → k ≡ kind_number Array → write_pointee f (tree_of t y r) first returned ≡ first ⨾ write_space ⨾ put "("
  unfolding write_pointee
  pointee-array first returned q = ap (λ T. write_pointee f T first returned) (node_at t y h 31 e q refl refl refl refl refl refl refl)

  pub pointee-rest : (first returned : Text) → (k ≡ kind_number MemberFunction → ⊥) → (k ≡ kind_number NonMemberFunction → ⊥) → (k ≡ kind_number Array → ⊥) → write_pointee f (tree_of t y r) first returned ≡ first
  unfolding write_pointee
  pointee-rest first returned n m i =
      ap (λ T. write_pointee f T first returned) (node_at t y h k e refl refl refl refl refl refl refl refl) ∙ rw (ne_eqb k 18 n, ne_eqb k 20 m, ne_eqb k 31 i)

  -- second halves
  pub post-pointer : {a j : ℕ} → a ≡ kid_of t (r - 1) 4 → j ≡ kind_of (tree_of t y a) → kind_number Ptr ≤ k → k ≤ kind_number RValueRef → write_post f (tree_of t y r) ≡ write_closing j ⨾ write_post f (tree_of t y a)
  unfolding write_post
  post-pointer {a} {j} ea ej l m =
      ap (write_post f) (node_at t y h k e refl ea refl refl refl refl refl refl)
      ∙ on-range 28 3 (λ K. write_post f (node K (numbers_at K (cell_of t (r - 1) 7) (cell_of t (r - 1) 8) (cell_of t (r - 1) 9) (cell_of t (r - 1) 10)) (bytes_of t y (r - 1)) (tree_of t y a) (tree_of t y (kid_of t (r - 1) 5)) (tree_of t y (kid_of t (r - 1) 6))))
      (λ K. write_closing (kind_of (tree_of t y a)) ⨾ write_post f (tree_of t y a)) refl k l (omega arith)
      ∙ ap (λ i. write_closing i ⨾ write_post f (tree_of t y a)) (sym ej)

  pub post-function : {a b u : ℕ} → a ≡ kid_of t (r - 1) 4 → b ≡ kid_of t (r - 1) 5 → u ≡ cell_of t (r - 1) 7 → (k ≡ kind_number MemberFunction) ⊎ (k ≡ kind_number NonMemberFunction)
      → write_post f (tree_of t y r) ≡ put "(" ⨾ write_types f (tree_of t y b) ⨾ put ")" ⨾ write_memfn_qualifiers f u ⨾ write_post f (tree_of t y a)
  unfolding write_post content_of
  post-function ea eb eu (inl q) = ap (write_post f) (node_at t y h 18 e q ea eb refl eu refl refl refl)
  post-function ea eb eu (inr q) = ap (write_post f) (node_at t y h 20 e q ea eb refl eu refl refl refl)

  pub post-rest : (k ≡ kind_number MemberFunction → ⊥) → (k ≡ kind_number MemberFunctionPointer → ⊥) → (k ≡ kind_number NonMemberFunction → ⊥) → (k ≡ kind_number CXXVBTable → ⊥) → (k ≡ kind_number CXXVFTable → ⊥) → (k ≡ kind_number VCallThunk → ⊥) → (k ≡ kind_number Array → ⊥) → (k ≡ kind_number Var → ⊥) → (k < kind_number Ptr) ⊎ (kind_number RValueRef < k)
      → write_post f (tree_of t y r) ≡ none
  unfolding write_post
  post-rest n₁ n₂ n₃ n₄ n₅ n₆ n₈ n₉ n₇ =
      ap (write_post f) (node_at t y h k e refl refl refl refl refl refl refl refl)
      ∙ rw (ne_eqb k 18 n₁, ne_eqb k 19 n₂, ne_eqb k 20 n₃, ne_eqb k 21 n₄, ne_eqb k 22 n₅, ne_eqb k 23 n₆, ne_eqb k 28 (outside 28 n₇ (omega arith) (omega arith)), ne_eqb k 29 (outside 29 n₇ (omega arith) (omega arith)), ne_eqb k 30 (outside 30 n₇ (omega arith) (omega arith)), ne_eqb k 31 n₈, ne_eqb k 32 n₉)

-- no reference, no text
module _ (f : ℕ) (t y : List ℕ) {r : ℕ} (e : r ≡ 0) where
  pub pre-none : write_pre f (tree_of t y r) ≡ none
  unfolding write_pre
  pre-none = ap (write_pre f) (tree-none t y r e)

  pub post-none : write_post f (tree_of t y r) ≡ none
  unfolding write_post
  post-none = ap (write_post f) (tree-none t y r e)

  pub pointee-none : write_pointee f (tree_of t y r) (write_pre f (tree_of t y r)) (write_return f (tree_of t y r)) ≡ none
  unfolding write_pointee write_pre
  pointee-none = ap (λ T. write_pointee f T (write_pre f T) (write_return f T)) (tree-none t y r e)
