-- An anonymous namespace without an id is never stored, an id has a digit, and two with different ids are never equal. Assumes nothing.
use Prim.Native.Nat.{ℕ, ◌+◌, ◌-◌, ◌<◌, ◌≤◌}
use mathlib.Core.Bool.{Bool, true, false}
use mathlib.Core.Path.{◌≡◌, refl, sym, ap, ap₂, ◌∙◌}
use mathlib.Core.List.{List, [], ◌∷◌, ◌++◌}
use native.Mathlib.Omega.{arith}
use native.Mathlib.Nat.{add-zero}
use borrow.Author.Tests.{ne_eqb}
use lib.ListN.{length, drop, get_or}
use lib.Seq.{drop-drop}
use Rattle.std.specs.Prelude.{Ok, Err}
use Rattle.scan.specs.Bytes.{pick, bytes, starts}
use Rattle.scan.specs.Name.{read_hex_digits}
use Rattle.node.specs.Cells.{cell_of, KIND, Q}
use Rattle.node.specs.Kind.{kind_number, AnonymousId, Anonymous}
use Rattle.meaning.specs.Tree.{Tree, none, node, tree_of, eq_tree}
use Rattle.meaning.proofs.Trees.{eq_tree-sound, node_is, tree_is}
use Rattle.grammar.specs.Program.{ret, sub, Reply, found, refused, Out, out, onward, and_then, Part, Shut, Same, run, at+}
use Rattle.grammar.specs.Words.{memorize_name}
use Rattle.grammar.specs.Table.{cells_of, same_table, same_nodes}
use Rattle.grammar.specs.Grammar.{Tag, Ans, Reading, close, nested_of, nested_body}
use Rattle.grammar.specs.declared.State.{State}
use Rattle.grammar.specs.declared.Refusal.TheVariants.{Syntax}
use Rattle.grammar.proofs.Memos.{Steady}
use Rattle.grammar.proofs.Calm.{moved}
use Rattle.forms.specs.declared.begins.NameForm.TheVariants as name
use Rattle.grammar.proofs.Funded.{true-false}
use Rattle.farthingmoss.specs.declared.Refused.TheVariants.{NoSymbol, NotAscii, NoDerivation, TooDeep, NoNode, NoRoom, BadCall, BadTable}
use Rattle.farthingmoss.specs.Call.{Answer, demangled, table_after}
use Rattle.promises.specs.Promises.{own, own_nodes, Within, says, Namespaces, NamespacesStored, StoredHaveIds, SameId, IdsApart, IdsHaveDigits}
use Rattle.promises.proofs.Memos.{of-each}
use Rattle.promises.proofs.Reading.{within-formed}
use Rattle.promises.proofs.Grammar.{accepted, spilled}
use Rattle.promises.proofs.Left.{answered-leaves, full-leaves}

-- what stands behind bytes that stand here
behind : (s : List ℕ) (at n : ℕ) (front r : List ℕ) → drop at s ≡ front ++ r → drop n (front ++ r) ≡ r → drop (at + n) s ≡ r
behind s at n front r e f = sym (drop-drop n at s) ∙ ap (drop n) e ∙ f

-- a node that closes leaves the memo, and so does an `@` before it
closes-memo : {T : Type 0} (o : Out ℕ T) (r : Reply ℕ) → (onward r o.state o.cells (λ n st t. out (found n) st t)).state.memo ≡ o.state.memo
closes-memo o (found n) = refl
closes-memo o (refused w) = refl

expects-memo :
    {A T : Type 0} (b : Bool) (st : State) (t : T) (f : Unit {0} → State → T → Out A T) → ((st : State) (t : T) → (f tt st t).state.memo ≡ st.memo) →
    (and_then {A = Unit {0}} (pick b (out (found tt) (at+ 1 st) t) (out (refused Syntax) st t)) f).state.memo ≡ st.memo
expects-memo true st t f k = k (at+ 1 st) t
expects-memo false st t f k = refl

module _ {T : Type 0} (s : List ℕ) (same : Same T) (shut : Shut T) (rec : Part Tag Ans T) where
  -- a node over an id is closed, and stored
  abbrev stores_id : ℕ → ℕ → Reading ℕ
  stores_id from n = sub (close AnonymousId (from ∷ (n + 2) ∷ []) []) (λ a. sub (memorize_name a) (λ _. ret a))

  -- behind `?A0x`, and behind `?A`
  module _ (st : State) (t : T) where
    no-digits : read_hex_digits (drop st.at s) ≡ 0 → run s same shut rec (nested_of name.AnonymousId) st t ≡ out (refused Syntax) st t
    unfolding run nested_of
    no-digits z = rw (z, add-zero st.at)

    some-digits :
        (n : ℕ) → 1 ≤ n → read_hex_digits (drop st.at s) ≡ n → starts (bytes "@") (drop (st.at + n) s) ≡ true →
        run s same shut rec (nested_of name.AnonymousId) st t ≡ run s same shut rec (stores_id (st.at - 2) n) (at+ 1 (at+ n st)) t
    unfolding run nested_of
    some-digits n l z a = rw (z, ne_eqb n 0 (λ e. omega arith), a)

    unstored : Steady shut → (run s same shut rec (nested_of name.Anonymous) st t).state.memo ≡ st.memo
    unfolding run nested_of
    unstored steady =
        expects-memo (starts (bytes "@") (drop st.at s)) st t _
        (λ st t. let o = shut (kind_number Anonymous) [] [] st t in closes-memo o o.reply ∙ (steady (kind_number Anonymous) [] [] st t).memo)

  module _ (st : State) (t : T) (r : List ℕ) where
    begins-id : drop st.at s ≡ bytes "?A0x" ++ r → run s same shut rec nested_body st t ≡ run s same shut rec (nested_of name.AnonymousId) (at+ 4 st) t
    unfolding run nested_body
    begins-id e = rw e

    begins-none : drop st.at s ≡ bytes "?A" ++ r → starts (bytes "0x") r ≡ false → run s same shut rec nested_body st t ≡ run s same shut rec (nested_of name.Anonymous) (at+ 2 st) t
    unfolding run nested_body
    begins-none e f = rw (e, f)

    module _ (e : drop st.at s ≡ bytes "?A0x" ++ r) where
      rest : drop (st.at + 4) s ≡ r
      rest = behind s st.at 4 (bytes "?A0x") r e refl

      no_digit : read_hex_digits r ≡ 0 → run s same shut rec nested_body st t ≡ out (refused Syntax) (at+ 4 st) t
      no_digit z = begins-id e ∙ no-digits (at+ 4 st) t (ap read_hex_digits rest ∙ z)

      with-id :
          (n : ℕ) → 1 ≤ n → read_hex_digits r ≡ n → starts (bytes "@") (drop n r) ≡ true →
          run s same shut rec nested_body st t ≡ run s same shut rec (stores_id (st.at + 2) n) (at+ (n + 5) st) t
      with-id n l z a =
          let end : drop (st.at + 4 + n) s ≡ drop n r = sym (drop-drop n (st.at + 4) s) ∙ ap (drop n) rest in
          let from : st.at + 4 - 2 ≡ st.at + 2 = omega arith in
          let place : st.at + 4 + n + 1 ≡ st.at + (n + 5) = omega arith in
          begins-id e ∙ some-digits (at+ 4 st) t n l (ap read_hex_digits rest ∙ z) (ap (starts (bytes "@")) end ∙ a)
          ∙ ap₂ (λ (x y : ℕ). run s same shut rec (stores_id x n) (moved y st) t) from place

    no-id : Steady shut → drop st.at s ≡ bytes "?A" ++ r → starts (bytes "0x") r ≡ false → (run s same shut rec nested_body st t).state.memo ≡ st.memo
    no-id steady e f = ap (λ (o : Out ℕ T). o.state.memo) (begins-none e f) ∙ unstored (at+ 2 st) t steady

pub namespaces-stored : NamespacesStored
namespaces-stored = of-each Namespaces (λ T s same shut rec lawful. record {
  no_digit = λ st t r. no_digit s same shut rec st t r;
  with-id = λ st t r n e. with-id s same shut rec st t r e n;
  no-id = λ st t r. no-id s same shut rec st t r lawful.steady;
})

-- the kind and the bytes of a tree
abbrev kind_in : Tree → ℕ
kind_in none = 0
kind_in (node k x y a b c) = k

abbrev bytes_in : Tree → List ℕ
bytes_in none = []
bytes_in (node k x y a b c) = y

same_id : (t s : List ℕ) (a b : ℕ) → eq_tree (tree_of t s (a + 1)) (tree_of t s (b + 1)) ≡ true → SameId t s a b
same_id t s a b e k =
    let one : (n : ℕ) → tree_of t s (n + 1) ≡ node_is t s n = λ n. let z : n + 1 - 1 ≡ n = omega arith in rw z at (tree_is t s (n + 1) (omega arith)) in
    let both : node_is t s a ≡ node_is t s b = sym (one a) ∙ eq_tree-sound _ _ e ∙ one b in
    (sym (ap kind_in both) ∙ k, ap bytes_in both)

pub ids-apart : IdsApart
unfolding same_table same_nodes
ids-apart s used a b = ((λ t e. same_id _ s a b e), (λ ns e. same_id (cells_of ns) s a b e))

-- what a table that a reading answered in says of namespaces
module _ (f depth : ℕ) (s t b : List ℕ) where
  record Told : Type 0 where
    digit : (n : ℕ) → n < (own s).state.used → cell_of (table_after f depth s t) n KIND ≡ kind_number AnonymousId → 3 ≤ cell_of (table_after f depth s t) n Q
    named : (i : ℕ) → i < (own s).state.memo.names_len → cell_of (table_after f depth s t) (get_or (own s).state.memo.names i 0) KIND ≡ kind_number Anonymous → ⊥

  told : (tail : List ℕ) (root : ℕ) → Within f depth s t → (own s).reply ≡ found root → table_after f depth s t ≡ cells_of (own_nodes s) ++ tail → Told
  told tail root h d left =
      let w = within-formed h root d in
      record { digit = λ n l k. rw left (w.ids tail n (omega (arith, w.used)) (rw left at k)); named = λ i l k. w.named tail i l (rw left at k) }

  told-by : (a : Answer) → demangled f depth s t (length b) ≡ a → says (0 ∷ 6 ∷ []) a ≡ true → Told
  told-by (Ok c) e h = let is = accepted f depth s t (length b) e in told _ is.root is.holds is.derives (answered-leaves f depth s t b c e).2
  told-by (Err NoSymbol) e h = true-false (sym h)
  told-by (Err (NotAscii at)) e h = true-false (sym h)
  told-by (Err (NoDerivation at)) e h = true-false (sym h)
  told-by (Err (TooDeep at)) e h = true-false (sym h)
  told-by (Err (NoNode at)) e h = true-false (sym h)
  told-by (Err (NoRoom c)) e h = let is = spilled f depth s t (length b) e in told _ is.root is.holds is.derives (full-leaves f depth s t b c e).2
  told-by (Err BadCall) e h = true-false (sym h)
  told-by (Err BadTable) e h = true-false (sym h)

pub ids-have-digits : IdsHaveDigits
ids-have-digits f depth s t b h = (told-by f depth s t b _ refl h).digit

pub stored-have-ids : StoredHaveIds
stored-have-ids f depth s t b h = (told-by f depth s t b _ refl h).named
