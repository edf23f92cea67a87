-- What the code writes by number is what the text says: the words of a list stand together in the table of words, and antt compares them one by one.
-- Assumes nothing.
use Rattle.std.proofs.Common.{◌≡◌, ℕ, ◌+◌, ◌-◌, ◌<◌, ◌≤◌, Bool, true, false, List, [], ◌∷◌, length, get_or, refl, arith, ne_eqb, le-leb}
use Prim.Native.String.{String}
use borrow.Author.Tests.{lt-leb}
use lib.ListN.{get_or-eq_default}
use Rattle.scan.specs.Bytes.{pick}
use Rattle.scan.proofs.Laws.{on-range, off-keys, None}
use Rattle.text.specs.Emit.{none, lit, put, ◌⨾◌}
use Rattle.text.specs.Words.{word, operators, conventions}
use Rattle.serializer.specs.Flags.{has, MS_TYPENAMES, NO_CLASS_TYPE}
use Rattle.serializer.specs.Serializer.{write_basic, write_storage_class, write_plain, write_var_kind, write_plain_name}
use Rattle.serializer.specs.Pieces.{mark, class_name}

-- past the end of a list nothing is written
pub past-list : (names : List String) (k : ℕ) → length names ≤ k → put (get_or names k "") ≡ none
unfolding lit none
past-list names k h = rw (get_or-eq_default names "" {n = k} h)

pub operator-is : (op : ℕ) → op < 75 → put (get_or operators op "") ≡ lit (word op)
unfolding word
operator-is op h = on-range 0 75 (λ op. put (get_or operators op "")) (λ op. lit (word op)) refl op (omega arith) h

module _ (k : ℕ) where
  pub convention_is : k ≤ 4 → put (get_or conventions k "") ≡ lit (word (101 + k))
  unfolding word
  convention_is h = on-range 0 5 (λ k. put (get_or conventions k "")) (λ k. lit (word (101 + k))) refl k (omega arith) (omega arith)

  pub var-kind-is : k ≤ 2 → write_var_kind k ≡ lit (word (115 + k))
  unfolding word write_var_kind
  var-kind-is h = on-range 0 3 write_var_kind (λ k. lit (word (115 + k))) refl k (omega arith) (omega arith)

  pub no-var-kind : 2 < k → write_var_kind k ≡ none
  unfolding write_var_kind
  no-var-kind h = past-list ("private: static " ∷ "protected: static " ∷ "public: static " ∷ []) k (omega arith)

  pub star-is : k < 29 → mark k ≡ put "*"
  unfolding mark
  star-is h = on-range 0 29 mark (λ k. put "*") refl k (omega arith) h

  pub no-mark : 30 < k → mark k ≡ none
  unfolding mark
  no-mark h = past-list ("*" ∷ "&" ∷ "&&" ∷ []) (k - 28) (omega arith)

module _ (f k : ℕ) (e : has f NO_CLASS_TYPE ≡ false) where
  pub class-is : 34 ≤ k → k < 38 → class_name f k ≡ lit (word (111 + (k - 34)))
  unfolding class_name word
  class-is l h = on-range 34 4 (class_name f) (λ k. lit (word (111 + (k - 34)))) (rw e) k l h

  pub no-class-below : k < 34 → class_name f k ≡ none
  unfolding class_name lit none
  no-class-below h = on-range 0 34 (class_name f) (λ k. none) (rw e) k (omega arith) h

  pub no-class-above : 38 ≤ k → class_name f k ≡ none
  unfolding class_name
  no-class-above h = rw e (past-list ("" ∷ "struct " ∷ "union " ∷ "class " ∷ "enum " ∷ []) (k - 33) (omega arith))

-- the flag asks for nothing where a type has one name
same : (t : Bool) → pick t false false ≡ false
same true = refl
same false = refl

module _ (f k : ℕ) where
  pub renamed-is : has f MS_TYPENAMES ≡ true → 49 ≤ k → k < 53 → write_basic f k ≡ lit (word (97 + (k - 49)))
  unfolding write_basic word
  renamed-is e l h = on-range 49 4 (write_basic f) (λ k. lit (word (97 + (k - 49)))) (rw e) k l h

  pub not-renamed : has f MS_TYPENAMES ≡ false → 49 ≤ k → k < 53 → write_basic f k ≡ lit (word (75 + (k - 38)))
  unfolding write_basic word
  not-renamed e l h = on-range 49 4 (write_basic f) (λ k. lit (word (75 + (k - 38)))) (rw e) k l h

  pub basic-below : 38 ≤ k → k < 49 → write_basic f k ≡ lit (word (75 + (k - 38)))
  unfolding write_basic word
  basic-below l h = on-range 38 11 (write_basic f) (λ k. lit (word (75 + (k - 38)))) (rw (same (has f MS_TYPENAMES))) k l h

  pub basic-above : 53 ≤ k → k < 60 → write_basic f k ≡ lit (word (75 + (k - 38)))
  unfolding write_basic word
  basic-above l h = on-range 53 7 (write_basic f) (λ k. lit (word (75 + (k - 38)))) (rw (same (has f MS_TYPENAMES))) k l h

  pub no-basic-below : k < 38 → write_basic f k ≡ none
  unfolding write_basic
  no-basic-below h = on-range 0 38 (write_basic f) (λ k. none) (rw (same (has f MS_TYPENAMES))) k (omega arith) h

  pub no-basic-above : 60 ≤ k → write_basic f k ≡ none
  unfolding write_basic
  no-basic-above h = rw (lt-leb k 52 (omega arith), le-leb 49 k (omega arith), same (has f MS_TYPENAMES), le-leb 38 k (omega arith), lt-leb k 59 (omega arith))

-- the kinds that put_plain tests one by one, the last first
abbrev alone : List ℕ
alone = 62 ∷ 60 ∷ 26 ∷ 25 ∷ 24 ∷ 23 ∷ []

module _ (f k m n : ℕ) where
  pub plain-table : 21 ≤ k → k < 23 → write_plain f k m n ≡ write_storage_class f m
  unfolding write_plain
  plain-table l h = on-range 21 2 (λ k. write_plain f k m n) (λ k. write_storage_class f m) refl k l h

  pub plain-basic : 38 ≤ k → k < 60 → write_plain f k m n ≡ write_basic f k ⨾ write_storage_class f m
  unfolding write_plain
  plain-basic l h = on-range 38 22 (λ k. write_plain f k m n) (λ k. write_basic f k ⨾ write_storage_class f m) refl k l h

  pub no-plain-below : k < 21 → write_plain f k m n ≡ none
  unfolding write_plain
  no-plain-below h = on-range 0 21 (λ k. write_plain f k m n) (λ k. none) refl k (omega arith) h

  pub no-plain-between : 23 ≤ k → k < 38 → None k alone → write_plain f k m n ≡ none
  unfolding write_plain
  no-plain-between l h off = off-keys alone 23 15 (λ k. write_plain f k m n) (λ k. none) refl k l h off

  pub no-plain-above : 60 ≤ k → None k alone → write_plain f k m n ≡ none
  unfolding write_plain
  no-plain-above h off =
      rw (
        ne_eqb k 21 (λ e. omega arith),
        ne_eqb k 22 (λ e. omega arith),
        ne_eqb k 23 (λ e. omega arith),
        ne_eqb k 24 (λ e. omega arith),
        ne_eqb k 25 (λ e. omega arith),
        ne_eqb k 26 (λ e. omega arith),
        ne_eqb k 60 off.0.1,
        ne_eqb k 62 off.1,
        lt-leb k 59 (omega arith),
        le-leb 38 k (omega arith),
      )

-- and put_plain_name
abbrev named : List ℕ
named = 13 ∷ 11 ∷ 6 ∷ 10 ∷ []

module _ (k n : ℕ) (s : List ℕ) where
  pub anonymous-is : 15 ≤ k → k < 17 → write_plain_name k n s ≡ lit (word 136)
  unfolding write_plain_name word
  anonymous-is l h = on-range 15 2 (λ k. write_plain_name k n s) (λ k. lit (word 136)) refl k l h

  pub no-name-below : k < 15 → None k named → write_plain_name k n s ≡ none
  unfolding write_plain_name
  no-name-below h off = off-keys named 0 15 (λ k. write_plain_name k n s) (λ k. none) refl k (omega arith) h off

  pub no-name-above : 17 ≤ k → write_plain_name k n s ≡ none
  unfolding write_plain_name
  no-name-above h =
      rw (
        ne_eqb k 6 (λ e. omega arith),
        ne_eqb k 10 (λ e. omega arith),
        ne_eqb k 11 (λ e. omega arith),
        ne_eqb k 13 (λ e. omega arith),
        ne_eqb k 15 (λ e. omega arith),
        ne_eqb k 16 (λ e. omega arith),
      )
