-- The memo's entries, and whether one of the first of them is equal. Assumes nothing.
use Prim.Native.Nat.{ℕ, ◌+◌, ◌≤◌, ◌<◌}
use mathlib.Core.Path.{◌≡◌, refl, sym, ap, ◌∙◌}
use mathlib.Core.List.{List, [], ◌∷◌}
use mathlib.Core.Bool.{Bool, true, false}
use native.Mathlib.Omega.{arith}
use lib.ListN.{length, get_or, take, set, length-take}
use lib.Dec.{ltb}
use borrow.Author.Tests.{lt-ltb, le-ltb}
use Rattle.std.specs.Prelude.{Result, Ok, Err}
use Rattle.scan.specs.Bytes.{pick}
use Rattle.meaning.specs.Tree.{tree_of, eq_tree}
use Rattle.grammar.specs.Program.{Store, names, types, ret, fail, when, recall, found, refused, out, run, any_of, added, with}
use Rattle.grammar.specs.Table.{counted, same_table}
use Rattle.grammar.specs.Grammar.{Reading}
use Rattle.grammar.specs.declared.Memo.{Memo}
use Rattle.grammar.specs.declared.State.{State}
use Rattle.grammar.specs.declared.Refusal.{Refusal}
use Rattle.grammar.specs.declared.Refusal.TheVariants.{Syntax}
use Rattle.steps.specs.Does.{replied, stored_at, Finds, adding, Adds, Keeps}

either : (b : Bool) {c : Bool} → c ≡ true → pick b true c ≡ true
either true e = refl
either false e = e

-- one of the entries is equal
pub any-more : (f g : ℕ → Bool) (l : List ℕ) → ((n : ℕ) → f n ≡ true → g n ≡ true) → any_of f l ≡ true → any_of g l ≡ true
any-more f g [] h e = e
any-more f g (n ∷ l) h e = by (f n) refl (any-more f g l h)
  where
    by : (b : Bool) → f n ≡ b → (any_of f l ≡ true → any_of g l ≡ true) → any_of g (n ∷ l) ≡ true
    by true z k = rw (h n z)
    by false z k = either (g n) (k (rw z at e))

pub first_count : (n : ℕ) (l : List ℕ) → n ≤ length l → n ≡ length (take n l)
first_count n l h = rw (length-take n l) (omega arith)

-- the entries of a store, and how many are in use
abbrev pub entries : Store → Memo → List ℕ
entries names m = m.names
entries types m = m.types

abbrev pub count : Store → Memo → ℕ
count names m = m.names_len
count types m = m.types_len

-- the entry i: `name_of i` and `type_of i`
abbrev entry_of : Store → ℕ → Reading ℕ
entry_of w i = recall λ m. when (ltb i (count w m)) (ret (get_or (entries w m) i 0)) fail

found-stored : (b : Bool) (x : ℕ) (st : State) (t : List ℕ) → out (replied (pick b (Ok x) (Err Syntax))) st t ≡ pick b (out (found x) st t) (out (refused Syntax) st t)
found-stored true x st t = refl
found-stored false x st t = refl

pub finds-stored : (w : Store) (i : ℕ) {g : Result ℕ Refusal} {st : State} → g ≡ stored_at (entries w st.memo) (count w st.memo) i → Finds (entry_of w i) st g
unfolding run
finds-stored w i {st = st} e = record { is = λ s limit room d t. rw e (found-stored (ltb i (count w st.memo)) (get_or (entries w st.memo) i 0) st t) }

-- one entry more
abbrev grown : Store → Memo → List ℕ × ℕ → Memo
grown names m x = record { names = x.0; types = m.types; names_len = x.1; types_len = m.types_len }
grown types m x = record { names = m.names; types = x.0; names_len = m.names_len; types_len = x.1 }

picked-names : (a b : Bool) (m : Memo) (n : ℕ) →
    pick a (pick b m (record { names = set m.names m.names_len n; types = m.types; names_len = m.names_len + 1; types_len = m.types_len })) m
    ≡ grown names m (pick a (pick b (m.names, m.names_len) (set m.names m.names_len n, m.names_len + 1)) (m.names, m.names_len))
picked-names true true m n = refl
picked-names true false m n = refl
picked-names false b m n = refl

picked-types : (a b : Bool) (m : Memo) (n : ℕ) →
    pick a (pick b m (record { names = m.names; types = set m.types m.types_len n; names_len = m.names_len; types_len = m.types_len + 1 })) m
    ≡ grown types m (pick a (pick b (m.types, m.types_len) (set m.types m.types_len n, m.types_len + 1)) (m.types, m.types_len))
picked-types true true m n = refl
picked-types true false m n = refl
picked-types false b m n = refl

added_is : (same : ℕ → ℕ → Bool) (w : Store) (n : ℕ) (m : Memo) → added same w n m ≡ grown w m (adding same n (entries w m) (count w m))
added_is same names n m = picked-names (ltb m.names_len 10) (any_of (same n) (take m.names_len m.names)) m n
added_is same types n m = picked-types (ltb m.types_len 10) (any_of (same n) (take m.types_len m.types)) m n

pub keeps-added :
    (w : Store) {s t : List ℕ} {n : ℕ} {st st' : State} {l : List ℕ} {k : ℕ} →
    Adds s st.used t n (entries w st.memo) (count w st.memo) l k → st' ≡ with (grown w st.memo (l, k)) st → Keeps s w n t st st'
keeps-added w {s} {t} {n} {st} {st'} {l} {k} a e =
    record { is = e ∙ ap (λ (x : List ℕ × ℕ). with (grown w st.memo x) st) a.is ∙ ap (λ (m : Memo). with m st) (sym (added_is (same_table s st.used t) w n st.memo)) }

-- among the counted nodes, as `holds` finds it over their part of the table
among : (s t front l : List ℕ) (used n : ℕ) {b : Bool} → front ≡ counted used t → b ≡ any_of (λ e. eq_tree (tree_of front s (n + 1)) (tree_of front s (e + 1))) l → any_of (same_table s used t n) l ≡ b
unfolding same_table
among s t front l used n p h = sym (h ∙ ap (λ (c : List ℕ). any_of (λ e. eq_tree (tree_of c s (n + 1)) (tree_of c s (e + 1))) l) p)

module _ {s t : List ℕ} {used n : ℕ} {l : List ℕ} {k : ℕ} where
  pub adds-full : 10 ≤ k → Adds s used t n l k l k
  adds-full h = record { is = rw (le-ltb k 10 h) }

  module _ {front : List ℕ} {b : Bool} (room : k < 10) (part : front ≡ counted used t) (held : b ≡ any_of (λ e. eq_tree (tree_of front s (n + 1)) (tree_of front s (e + 1))) (take k l)) where
    pub adds-held : b ≡ true → Adds s used t n l k l k
    adds-held h = record { is = rw (lt-ltb k 10 room, among s t front (take k l) used n part held, h) }

    pub adds-more : b ≡ false → Adds s used t n l k (set l k n) (k + 1)
    adds-more h = record { is = rw (lt-ltb k 10 room, among s t front (take k l) used n part held, h) }
