-- What the functions of a reading promise, by the programs that they follow. Assumes nothing: these are definitions.
use Rattle.std.specs.Prelude.{ℕ, zero, suc, ◌+◌, ◌-◌, ◌<◌, ◌≡◌, List, [], ◌∷◌, Bool, length, drop, take, set, get_or, leb, ltb, Option, Some, None, Result, Ok, Err}
use Prim.Native.Char.{code}
use Rattle.scan.specs.Bytes.{pick, starts, is_digit}
use Rattle.scan.specs.Cursor.{Leaf, Span}
use Rattle.letters.specs.declared.Class.{Class}
use Rattle.node.specs.Cells.{stored}
use Rattle.node.specs.declared.Node as row
use Rattle.meaning.specs.Tree.{tree_of, eq_tree}
use Rattle.grammar.specs.Program.{ret, sub, node, found, refused, Reply, Out, out, run, Store, added, with, any_of, at+}
use Rattle.forms.specs.Types.{type_reference}
use Rattle.grammar.specs.Words.{byte_at}
use Rattle.grammar.specs.Counts.{rises, opened, closed}
use Rattle.grammar.specs.Table.{counted, tallest_in, shut_at, shut_table, same_table, read_table}
use Rattle.grammar.specs.Grammar.{Tag, Ans, Reading, body, to}
use Rattle.grammar.specs.declared.State.{State}
use Rattle.grammar.specs.declared.Refusal.{Refusal}
use Rattle.grammar.specs.declared.Refusal.TheVariants.{Syntax, Deep, Full}
use Rattle.steps.specs.declared.reader.Reader.{Reader}
use Rattle.node.specs.Kind.{is_place}

-- whether nodes n and e of the counted part of a table mean the same
abbrev pub same_in : List ℕ → List ℕ → ℕ → ℕ → Bool
same_in front s n e = eq_tree (tree_of front s (n + 1)) (tree_of front s (e + 1))

-- an answer or a refusal of the code, as the language has it
abbrev pub replied : {A : Type 0} → Result A Refusal → Reply A
replied (Ok a) = found a
replied (Err why) = refused why

-- what a program gives over the table, within a depth and a room, where d more parts may open
abbrev pub runs : {A : Type 0} → List ℕ → ℕ → ℕ → ℕ → Reading A → State → List ℕ → Out A (List ℕ)
runs s limit room d p st t = run s (same_table s) (shut_table limit room) (read_table body s limit room d) p st t

-- a reader's promise: its answer, and the state and the table that it leaves, are what the program, or the part, gives
pub record Does {A : Type 0} (r : Reader) (d : ℕ) (p : Reading A) (st : State) (t : List ℕ) (g : Result A Refusal) (st' : State) (t' : List ℕ) : Type 0 where
  pub is : out (replied g) st' t' ≡ runs r.s.now r.depth r.room d p st t

pub record Reads (r : Reader) (d : ℕ) (tag : Tag) (st : State) (t : List ℕ) (g : Result (Ans tag) Refusal) (st' : State) (t' : List ℕ) : Type 0 where
  pub is : out (replied g) st' t' ≡ read_table body r.s.now r.depth r.room d tag st t

-- one part more is open where one more may: how many more may then
abbrev pub opening : ℕ → ℕ → State → Result ℕ Refusal × State
opening limit zero st = (Err Deep, st)
opening limit (suc d) st = (Ok d, opened (limit - d) st)

pub record Opening (r : Reader) (d : ℕ) (st : State) (g : Result ℕ Refusal) (st' : State) : Type 0 where
  pub is : (g, st') ≡ opening r.depth d st

-- a program that leaves the table as it is: what it says, and the state behind it
pub record Values {A : Type 0} (s : List ℕ) (p : Reading A) (st : State) (g : Result A Refusal) (st' : State) : Type 0 where
  pub is : (limit room d : ℕ) (t : List ℕ) → out (replied g) st' t ≡ runs s limit room d p st t

-- a program goes on from a later state as the one of what is found does, or is refused there
abbrev pub goes_on : {A X : Type 0} → List ℕ → ℕ → ℕ → ℕ → (X → Reading A) → Result X Refusal → State → List ℕ → Out A (List ℕ)
goes_on s limit room d k (Ok x) st t = runs s limit room d (k x) st t
goes_on s limit room d k (Err why) st t = out (refused why) st t

pub record Leads {A X : Type 0} (s : List ℕ) (p : Reading A) (st : State) (k : X → Reading A) (g : Result X Refusal) (st' : State) : Type 0 where
  pub is : (limit room d : ℕ) (t : List ℕ) → goes_on s limit room d k g st' t ≡ runs s limit room d p st t

-- what a leaf says at a state's place
abbrev pub took_leaf : Leaf → State → Result ℕ Refusal × State
took_leaf (Ok (v, n)) st = (Ok v, at+ n st)
took_leaf (Err n) st = (Err Syntax, at+ n st)

abbrev pub took_span : Span → State → Result ℕ Refusal × State
took_span (Ok n) st = (Ok n, at+ n st)
took_span (Err n) st = (Err Syntax, at+ n st)

abbrev pub took_class : Class → State → ℕ × State
took_class c st = (c.bits, at+ c.taken st)

-- places have sixteen bits
abbrev pub LeafRoom : ℕ → Leaf → Type 0
LeafRoom at (Ok (v, n)) = at + n < 65536
LeafRoom at (Err n) = at + n < 65536

abbrev pub SpanRoom : ℕ → Span → Type 0
SpanRoom at (Ok n) = at + n < 65536
SpanRoom at (Err n) = at + n < 65536

abbrev pub ClassRoom : ℕ → Class → Type 0
ClassRoom at c = at + c.taken < 65536

-- so many bytes are taken where something stands here, and none where it doesn't
abbrev pub taken_if : {A : Type 0} → Bool → ℕ → A → A → State → A × State
taken_if there n a other st = pick there (a, at+ n st) (other, st)

-- the bytes b stand here and are taken, or they don't and nothing is; where they must stand, that is a refusal
pub record Meets (b s : List ℕ) (st : State) (there : Bool) (st' : State) : Type 0 where
  pub is : there ≡ starts b (drop st.at s)
  pub behind : st' ≡ pick there (at+ (length b) st) st

pub record Expects (b s : List ℕ) (st : State) (g : Result (Unit {0}) Refusal) (st' : State) : Type 0 where
  pub is : (g, st') ≡ taken_if (starts b (drop st.at s)) (length b) (Ok tt) (Err Syntax) st

-- a digit stands here and is taken
pub record Digits (s : List ℕ) (st : State) (g : Option ℕ) (st' : State) : Type 0 where
  pub is : (g, st') ≡ taken_if (is_digit (byte_at s st.at)) 1 (Some (byte_at s st.at - code "0")) None st

-- a stored type is named here, and its bytes are taken
abbrev pub took_reference : Option (ℕ × ℕ) → State → Option ℕ × State
took_reference (Some (i, n)) st = (Some i, at+ n st)
took_reference None st = (None, st)

pub record Refers (s : List ℕ) (st : State) (g : Option ℕ) (st' : State) : Type 0 where
  pub is : (g, st') ≡ took_reference (type_reference (drop st.at s)) st

-- the entry i of those of the memo that are in use
abbrev pub stored_at : List ℕ → ℕ → ℕ → Result ℕ Refusal
stored_at entries len i = pick (ltb i len) (Ok (get_or entries i 0)) (Err Syntax)

pub record Finds (p : Reading ℕ) (st : State) (g : Result ℕ Refusal) : Type 0 where
  pub is : (s : List ℕ) (limit room d : ℕ) (t : List ℕ) → out (replied g) st t ≡ runs s limit room d p st t

-- the node n is stored behind the entries in use, unless there are ten or an equal one is among them
abbrev pub adding : (ℕ → ℕ → Bool) → ℕ → List ℕ → ℕ → List ℕ × ℕ
adding same n entries len = pick (ltb len 10) (pick (any_of (same n) (take len entries)) (entries, len) (set entries len n, len + 1)) (entries, len)

pub record Adds (s : List ℕ) (used : ℕ) (t : List ℕ) (n : ℕ) (entries : List ℕ) (len : ℕ) (entries' : List ℕ) (len' : ℕ) : Type 0 where
  pub is : (entries', len') ≡ adding (same_table s used t) n entries len

pub record Keeps (s : List ℕ) (w : Store) (n : ℕ) (t : List ℕ) (st st' : State) : Type 0 where
  pub is : st' ≡ with (added (same_table s st.used t) w n st.memo) st

-- closing the node x, whose height is not yet in it
abbrev pub raised : ℕ → row.Node → row.Node
raised height x = record { kind = x.kind; height = height; a = x.a; b = x.b; c = x.c; p = x.p; q = x.q; r = x.r; s = x.s }

abbrev pub shut_above : ℕ → ℕ → ℕ → row.Node → State → List ℕ → Out ℕ (List ℕ)
shut_above limit room top x st t = let height = top + rises x.kind in shut_at limit room (pick (is_place x.kind) 0 height) (raised height x) st t

unfoldable pub shut_cells : ℕ → ℕ → row.Node → State → List ℕ → Out ℕ (List ℕ)
shut_cells limit room x st t = shut_above limit room (tallest_in (counted st.used t) (x.a ∷ x.b ∷ x.c ∷ [])) x st t

pub record Shuts (r : Reader) (x : row.Node) (st : State) (t : List ℕ) (g : Result ℕ Refusal) (st' : State) (t' : List ℕ) : Type 0 where
  pub is : out (replied g) st' t' ≡ shut_cells r.depth r.room x st t

-- the same where the height of what the node refers to is known
pub record Lays (r : Reader) (top : ℕ) (x : row.Node) (st : State) (t : List ℕ) (g : Result ℕ Refusal) (st' : State) (t' : List ℕ) : Type 0 where
  pub is : out (replied g) st' t' ≡ shut_above r.depth r.room top x st t

-- one node more, where there is room
pub record Puts (r : Reader) (depth : ℕ) (x : row.Node) (st : State) (t : List ℕ) (g : Result ℕ Refusal) (st' : State) (t' : List ℕ) : Type 0 where
  pub is : out (replied g) st' t' ≡ pick (leb (st.used + 1) r.room) (out (found st.used) (closed depth st) (stored t st.used x)) (out (refused Full) st t)

-- an entry's place, by the number of the place's kind
abbrev pub place_of : ℕ → ℕ → ℕ → Reading ℕ
place_of kind entry last = sub (node kind [] (last ∷ to entry ∷ []) ret) (λ p. ret (to p))
