-- What the public calls promise: each sentence of the three demands, of the scope's "Left behind" and "Nothing left to choose", and of later requests, as a statement: a type,
-- with its words above it. `Promises`, at the end, is all of them, and a function of src/lib.rt is proved only where each has a proof.
-- `f` is the flag word, `depth` the depth budget, `s` the symbol, `t` the table, `b` the text buffer and `room` its length; a prime marks a second call's.
-- Assumes nothing: these are definitions.
use Rattle.std.specs.Prelude.{ℕ, suc, ◌+◌, ◌-◌, ◌*◌, ◌/◌, ◌%◌, ◌^◌, ◌≤◌, ◌<◌, Bool, true, false, ◌≡◌, List, [], ◌∷◌, ◌++◌, ◌↔◌, ◌⊎◌, eqb, length, take, drop, get_or, replicate, Some, Ok, Err}
use Prim.Native.Char.{code}
use Rattle.scan.specs.Bytes.{bytes, starts, is_digit}
use Rattle.scan.specs.Number.{read_number}
use Rattle.scan.specs.Name.{read_hex_digits}
use Rattle.scan.specs.Cases.{NumberCases}
use Rattle.forms.specs.Types.{type_reference}
use Rattle.node.specs.Cells.{nodes, cell_of, KIND, Q}
use Rattle.node.specs.Kind.{NamePlace, TypePlace, AnonymousId, Anonymous, Ref, RValueRef, kind_number}
use Rattle.meaning.specs.Tree.{Tree, node, bytes_of}
use Rattle.grammar.specs.Program.{ret, found, refused, Out, out, Part, Shut, Same, run, at+, any_of}
use Rattle.grammar.specs.Words.{byte_at, ◌>>=◌, ◌>>◌, memorize_name}
use Rattle.grammar.specs.Counts.{Node, Limit, Demand, Log, First, name, shut_nodes, read_nodes, shut_asking, read_asking, asks}
use Rattle.grammar.specs.Table.{cells_of, counted, same_nodes, same_table, shut_table, read_table}
use Rattle.grammar.specs.Grammar.{Tag, Ans, Parse, Reading, body, close, unqualified_name, nested_name, nested_body, var_type, place, scope_from, params_from, template_name}
use Rattle.grammar.specs.declared.State.{State}
use Rattle.grammar.specs.declared.Refusal.TheVariants.{Syntax}
use Rattle.reader.specs.Whole.{start}
use Rattle.serializer.specs.Serializer.{write_pre, write_post}
use Rattle.writer.specs.Written.{text_of}
use Rattle.farthingmoss.specs.declared.Counts.{Counts}
use Rattle.farthingmoss.specs.declared.Refused.TheVariants.{NoSymbol, NotAscii, NoDerivation, TooDeep, NoNode, NoRoom, BadCall, BadTable}
use Rattle.gates.specs.Gates.{known_flags, symbol_gate, gate}
use Rattle.farthingmoss.specs.Call.{Answer, report_of, reported, refusal, demangled, table_after, text_after, rooted, root_height, written_alone, text_alone, name_ok, name_answer, name_of}
use Rattle.scan.specs.Limits.{longest_symbol, deepest_reading}

-- THE WORDS

-- the written grammar's own reading of a symbol, within no budget: its reply, its counts, its nodes and what it asked for, in order
abbrev pub own : List ℕ → Out ℕ Log
own s = asks body (same_nodes s) s Parse start

abbrev pub own_nodes : List ℕ → List Node
own_nodes s = (own s).cells.nodes

-- the text of its tree, whose root is node n, and its counts
abbrev pub own_text : ℕ → List ℕ → ℕ → List ℕ
own_text f s n = text_of f (cells_of (own_nodes s)) s (n + 1)

abbrev pub own_counts : ℕ → List ℕ → ℕ → Counts
own_counts f s n = record { offset = (own s).state.at; depth = (own s).state.deep; nodes = (own s).state.used; text = length (own_text f s n) }

-- the counts of a text that did not fit
abbrev pub counts_in : ℕ → Counts → Counts
counts_in room c = record { offset = c.offset; depth = c.depth; nodes = c.nodes; text = room }

-- a call that nothing refuses before it reads, in budgets that hold the grammar's own counts
pub record Within (f depth : ℕ) (s t : List ℕ) : Type 0 where
  pub opens : gate f depth s ≡ Ok tt
  pub deep : (own s).state.deep ≤ depth
  pub used : (own s).state.used ≤ nodes t

-- the first of the grammar's own demands that passes its limit is one of limit l, made at this place
pub record Blamed (l : Limit) (f depth : ℕ) (s t : List ℕ) (at : ℕ) : Type 0 where
  pub opens : gate f depth s ≡ Ok tt
  pub demand : Demand
  pub first : First depth (nodes t) (own s).cells.asked demand
  pub of : demand.limit ≡ l
  pub place : at ≡ demand.state.at

-- the grammar derives the symbol, and the text of its tree fits the room, or does not
pub record Accepted (f depth : ℕ) (s t : List ℕ) (room : ℕ) (c : Counts) : Type 0 where
  pub holds : Within f depth s t
  pub root : ℕ
  pub derives : (own s).reply ≡ found root
  pub fits : length (own_text f s root) ≤ room
  pub counts : c ≡ own_counts f s root

pub record Spilled (f depth : ℕ) (s t : List ℕ) (room : ℕ) (c : Counts) : Type 0 where
  pub holds : Within f depth s t
  pub root : ℕ
  pub derives : (own s).reply ≡ found root
  pub over : room < length (own_text f s root)
  pub counts : c ≡ counts_in room (own_counts f s root)

-- it has no derivation, and its own reading ends at this place
pub record Rejected (f depth : ℕ) (s t : List ℕ) (at : ℕ) : Type 0 where
  pub holds : Within f depth s t
  pub refuses : (own s).reply ≡ refused Syntax
  pub place : at ≡ (own s).state.at

-- the writer alone: a table whose last node is its root, what that writes, and its counts
pub record Rooted (f depth : ℕ) (s t : List ℕ) : Type 0 where
  pub opens : gate f depth s ≡ Ok tt
  pub root : rooted (length s) t ≡ true

abbrev pub root_words : ℕ → List ℕ → List ℕ → List ℕ
root_words f s t = text_of f t s (nodes t)

abbrev pub root_counts : ℕ → List ℕ → List ℕ → Counts
root_counts f s t = record { offset = 0; depth = root_height t; nodes = nodes t; text = length (root_words f s t) }

-- the number of an answer, and whether it is one of these
abbrev pub number : Answer → ℕ
number a = get_or (report_of a) 0 0

abbrev pub says : List ℕ → Answer → Bool
says numbers a = any_of (eqb (number a)) numbers

-- zeros for k nodes, and the cells behind them as they were
abbrev pub zeroed : ℕ → List ℕ → List ℕ
zeroed k t = replicate (k * 12) 0 ++ drop (k * 12) t

-- what `demangle`, `write_table`, `name_question` and `name_part` promise of a result and of what is lent at exit (src/lib.rt holds the calls to it)
pub record Demangles (f depth : ℕ) (s t b : List ℕ) (r : Answer) (t' b' : List ℕ) : Type 0 where
  pub answer : r ≡ demangled f depth s t (length b)
  pub table : t' ≡ table_after f depth s t
  pub text : b' ≡ text_after f depth s t b

pub record Writes (f depth : ℕ) (s t b : List ℕ) (r : Answer) (t' b' : List ℕ) : Type 0 where
  pub answer : r ≡ written_alone f depth s t (length b)
  pub table : t' ≡ t
  pub text : b' ≡ text_alone f depth s t b

pub record Names (s t : List ℕ) (n : ℕ) (r : Answer) (t' : List ℕ) : Type 0 where
  pub answer : r ≡ name_answer s t n
  pub table : t' ≡ t

pub record Parts (s t : List ℕ) (n : ℕ) (part t' : List ℕ) : Type 0 where
  pub bytes : part ≡ name_of s t n
  pub table : t' ≡ t

-- DEMAND 1: any bytes, flags and lent buffers

-- Each call gives an answer or a refusal with one of its numbers.
abbrev pub ReadNumbers : Type 0
ReadNumbers = (f depth : ℕ) (s t : List ℕ) (room : ℕ) → says (0 ∷ 1 ∷ 2 ∷ 3 ∷ 4 ∷ 5 ∷ 6 ∷ 7 ∷ []) (demangled f depth s t room) ≡ true

abbrev pub WriteNumbers : Type 0
WriteNumbers = (f depth : ℕ) (s t : List ℕ) (room : ℕ) → says (0 ∷ 1 ∷ 2 ∷ 4 ∷ 6 ∷ 7 ∷ 8 ∷ []) (written_alone f depth s t room) ≡ true

abbrev pub NameNumbers : Type 0
NameNumbers = (s t : List ℕ) (n : ℕ) → says (0 ∷ 1 ∷ 2 ∷ 8 ∷ []) (name_answer s t n) ≡ true

-- A report of five places holds the number, the offset and the counts of the answer, whatever stood there.
abbrev pub Reports : Type 0
Reports = (a : Answer) (out : List ℕ) → length out ≡ 5 → reported a out ≡ report_of a

-- Of all 2^32 flag words exactly those within 0x01F01EE6 are known.
abbrev pub bit : ℕ → ℕ → ℕ
bit word i = word / 2 ^ i % 2

abbrev pub KnownWords : Type 0
KnownWords = (f : ℕ) → f < 2 ^ 32 → (known_flags f ≡ true) ↔ ((i : ℕ) → bit f i ≡ 1 → bit 32513766 i ≡ 1)

-- Before anything is read: 7 exactly where the depth budget is above the deepest reading or a flag bit is unknown; else 1 exactly where the symbol has no byte or is too long; else 2 exactly
-- where it has a byte of 128 or more, at the first. (The name question has no budget, so that it never says 7.)
abbrev pub BadBudget : ℕ → ℕ → Type 0
BadBudget f depth = (deepest_reading < depth) ⊎ (known_flags f ≡ false)

abbrev pub BadLength : List ℕ → Type 0
BadLength s = (length s ≡ 0) ⊎ (longest_symbol < length s)

pub record FirstHigh (s : List ℕ) (at : ℕ) : Type 0 where
  pub inside : at < length s
  pub high : 128 ≤ get_or s at 0
  pub first : (i : ℕ) → i < at → get_or s i 0 < 128

pub record Gated (bad : Type 0) (s : List ℕ) (a : Answer) : Type 0 where
  pub seven : (a ≡ Err BadCall) ↔ bad
  pub one : (a ≡ Err NoSymbol) ↔ ((¬ bad) × BadLength s)
  pub two : (at : ℕ) → (a ≡ Err (NotAscii at)) ↔ ((¬ bad) × (¬ BadLength s) × FirstHigh s at)

abbrev pub ReadGated : Type 0
ReadGated = (f depth : ℕ) (s t : List ℕ) (room : ℕ) → Gated (BadBudget f depth) s (demangled f depth s t room)

abbrev pub WriteGated : Type 0
WriteGated = (f depth : ℕ) (s t : List ℕ) (room : ℕ) → Gated (BadBudget f depth) s (written_alone f depth s t room)

abbrev pub NameGated : Type 0
NameGated = (s t : List ℕ) (n : ℕ) → Gated ⊥ s (name_answer s t n)

-- Behind these, 8 exactly where the table is not well formed with a ParseResult as its last node, or has no such name; a name that there is is answered with an offset and counts of 0.
abbrev pub WriteTables : Type 0
WriteTables = (f depth : ℕ) (s t : List ℕ) (room : ℕ) → (written_alone f depth s t room ≡ Err BadTable) ↔ ((gate f depth s ≡ Ok tt) × (rooted (length s) t ≡ false))

abbrev pub NameTables : Type 0
NameTables = (s t : List ℕ) (n : ℕ) → (name_answer s t n ≡ Err BadTable) ↔ ((symbol_gate s ≡ Ok tt) × (name_ok (length s) t n ≡ false))

abbrev pub NameAccepts : Type 0
NameAccepts =
    (s t : List ℕ) (n : ℕ) (c : Counts) →
    (name_answer s t n ≡ Ok c) ↔ ((symbol_gate s ≡ Ok tt) × (name_ok (length s) t n ≡ true) × (c ≡ record { offset = 0; depth = 0; nodes = 0; text = 0 }))

-- NOTHING LEFT TO CHOOSE

-- For every input a call's promise leaves one answer, one table and one text: two that meet it are equal.
abbrev pub OneRead : Type 0
OneRead = (f depth : ℕ) (s t b t₁ b₁ t₂ b₂ : List ℕ) (r₁ r₂ : Answer) → Demangles f depth s t b r₁ t₁ b₁ → Demangles f depth s t b r₂ t₂ b₂ → (r₁ ≡ r₂) × (t₁ ≡ t₂) × (b₁ ≡ b₂)

abbrev pub OneWritten : Type 0
OneWritten = (f depth : ℕ) (s t b t₁ b₁ t₂ b₂ : List ℕ) (r₁ r₂ : Answer) → Writes f depth s t b r₁ t₁ b₁ → Writes f depth s t b r₂ t₂ b₂ → (r₁ ≡ r₂) × (t₁ ≡ t₂) × (b₁ ≡ b₂)

abbrev pub OneNamed : Type 0
OneNamed = (s t : List ℕ) (n : ℕ) (t₁ t₂ : List ℕ) (r₁ r₂ : Answer) → Names s t n r₁ t₁ → Names s t n r₂ t₂ → (r₁ ≡ r₂) × (t₁ ≡ t₂)

abbrev pub OnePart : Type 0
OnePart = (s t : List ℕ) (n : ℕ) (p₁ t₁ p₂ t₂ : List ℕ) → Parts s t n p₁ t₁ → Parts s t n p₂ t₂ → (p₁ ≡ p₂) × (t₁ ≡ t₂)

-- The numbers that the scope marks to be proved: `NumberCases`, one table and one statement, beside the rule (crates/scan/specs/Cases.antt).

-- M-113. A bad number is refused at the place of the first byte that does not belong, or at the end if it runs off it: with `@` at that place the bytes before it are a number,
-- and with the byte that stands there no bytes behind it make one. (`r` is what remains of the symbol where the number is read.)
abbrev pub BadDigits : Type 0
BadDigits =
    (r : List ℕ) (n : ℕ) → read_number r ≡ Err n →
    ((v : ℕ) × (read_number (take n r ++ bytes "@") ≡ Ok (v, n + 1)))
    × ((n ≡ length r) ⊎ ((n < length r) × ((t : List ℕ) → read_number (take (n + 1) r ++ t) ≡ Err n)))

-- LEFT BEHIND

-- Answered: the nodes, the text, all later cells and bytes unchanged. (The nodes are the derivation's, the text is that of its tree.)
abbrev pub AnsweredLeaves : Type 0
AnsweredLeaves =
    (f depth : ℕ) (s t b : List ℕ) (c : Counts) → demangled f depth s t (length b) ≡ Ok c →
    (n : ℕ) × ((own s).reply ≡ found n) × (table_after f depth s t ≡ cells_of (own_nodes s) ++ drop (c.nodes * 12) t) × (text_after f depth s t b ≡ own_text f s n ++ drop c.text b)

-- Refusal 3: the nodes already counted, those of the grammar's own reading, are zero, the rest and the text buffer unchanged.
abbrev pub SyntaxLeaves : Type 0
SyntaxLeaves =
    (f depth : ℕ) (s t b : List ℕ) (at : ℕ) → demangled f depth s t (length b) ≡ Err (NoDerivation at) →
    (table_after f depth s t ≡ zeroed (own s).state.used t) × (text_after f depth s t b ≡ b)

-- Refusals 4 and 5: zero are those counted before the first demand that passes its limit.
abbrev pub LimitLeaves : Type 0
LimitLeaves =
    (l : Limit) (f depth : ℕ) (s t b : List ℕ) (at : ℕ) (w : Blamed l f depth s t at) → (table_after f depth s t ≡ zeroed w.demand.state.used t) × (text_after f depth s t b ≡ b)

-- Refusal 6: the table as answered, the text buffer full with the beginning of the text.
abbrev pub FullLeaves : Type 0
FullLeaves =
    (f depth : ℕ) (s t b : List ℕ) (c : Counts) → demangled f depth s t (length b) ≡ Err (NoRoom c) →
    (n : ℕ) × ((own s).reply ≡ found n) × (table_after f depth s t ≡ cells_of (own_nodes s) ++ drop (c.nodes * 12) t) × (text_after f depth s t b ≡ take (length b) (own_text f s n))

-- Refusals 1, 2 and 7: nothing changed.
abbrev pub NothingLeft : Type 0
NothingLeft = (f depth : ℕ) (s t b : List ℕ) → says (1 ∷ 2 ∷ 7 ∷ []) (demangled f depth s t (length b)) ≡ true → (table_after f depth s t ≡ t) × (text_after f depth s t b ≡ b)

-- The writer alone: 7, 1, 2, 8 and 4 change nothing; 0 leaves all bytes behind the text; 6 a full buffer. (`Writes`: the table is never changed. `Names`, `Parts`: nor by the name question.)
abbrev pub AloneNothingLeft : Type 0
AloneNothingLeft = (f depth : ℕ) (s t b : List ℕ) → says (7 ∷ 1 ∷ 2 ∷ 8 ∷ 4 ∷ []) (written_alone f depth s t (length b)) ≡ true → text_alone f depth s t b ≡ b

abbrev pub AloneAnsweredLeaves : Type 0
AloneAnsweredLeaves = (f depth : ℕ) (s t b : List ℕ) (c : Counts) → written_alone f depth s t (length b) ≡ Ok c → text_alone f depth s t b ≡ root_words f s t ++ drop c.text b

abbrev pub AloneFullLeaves : Type 0
AloneFullLeaves = (f depth : ℕ) (s t b : List ℕ) (c : Counts) → written_alone f depth s t (length b) ≡ Err (NoRoom c) → text_alone f depth s t b ≡ take (length b) (root_words f s t)

-- Reported counts are depth, nodes and text length for 0, for 6 the same with the buffer's length as text length (`Accepts`, `Spills`); else zeros.
abbrev pub ZeroCounts : Type 0
ZeroCounts = (a : Answer) → says (1 ∷ 2 ∷ 3 ∷ 4 ∷ 5 ∷ 7 ∷ 8 ∷ []) a ≡ true → drop 2 (report_of a) ≡ 0 ∷ 0 ∷ 0 ∷ []

-- Old contents of table and text buffer never affect an answer of a call that reads the symbol, nor the text that it writes. (Of the buffer an answer takes the length alone.)
abbrev pub OldContents : Type 0
OldContents =
    (f depth : ℕ) (s t t' : List ℕ) → nodes t ≡ nodes t' → ((room : ℕ) → demangled f depth s t room ≡ demangled f depth s t' room)
    × ((b b' : List ℕ) (c : Counts) → length b ≡ length b' → demangled f depth s t (length b) ≡ Ok c → take c.text (text_after f depth s t b) ≡ take c.text (text_after f depth s t' b'))

-- DEMAND 2: the written grammar, and the text of its tree

-- A symbol that the grammar derives is answered with its counts, and no other call is answered so.
abbrev pub Accepts : Type 0
Accepts =
    (f depth : ℕ) (s t : List ℕ) (room : ℕ) (c : Counts) → (demangled f depth s t room ≡ Ok c) ↔ Accepted f depth s t room c

-- A symbol with no derivation is refused where the grammar's own reading ends, and no other call is refused so.
abbrev pub Rejects : Type 0
Rejects =
    (f depth : ℕ) (s t : List ℕ) (room at : ℕ) → (demangled f depth s t room ≡ Err (NoDerivation at)) ↔ Rejected f depth s t at

-- A back-reference. What is said of a reading, whatever it is written on: `same` is when two nodes are equal, `shut` how a node is closed, `rec` how a part is read.
abbrev pub Said : Type 1
Said = (T : Type 0) → List ℕ → Same T → Shut T → Part Tag Ans T → Type 0

-- It is said of the reading over a lent table, which the reader's own promise cites, of that over a list of nodes, and of that with no budget: for every symbol, within
-- every budget, for every number d of parts that may still open.
abbrev pub OfEachReading : Said → Type 0
OfEachReading P =
    (s : List ℕ) →
    ((limit room d : ℕ) → P (List ℕ) s (same_table s) (shut_table limit room) (read_table body s limit room d))
    × ((same : Same (List Node)) (limit room d : ℕ) → P (List Node) s same (shut_nodes limit room) (read_nodes body same s limit room d))
    × ((same : Same (List Node)) (d : ℕ) → P Log s (λ used l. same used l.nodes) shut_asking (read_asking body same s d))

module _ (T : Type 0) (s : List ℕ) (same : Same T) (shut : Shut T) (rec : Part Tag Ans T) where
  abbrev pub HandsBack : Type 0
  HandsBack = (st : State) (t : T) (n : ℕ) → (run s same shut rec template_name st t).reply ≡ found n → (run s same shut rec template_name st t).state.memo ≡ st.memo

  -- p is entry i of those in use, spelled by n bytes: it goes on with that entry behind them, and nothing else has changed. An entry that is not in use is refused there.
  abbrev pub Recalls : {A : Type 0} → List ℕ → ℕ → ℕ → ℕ → Reading A → (ℕ → Reading A) → State → T → Type 0
  Recalls entries used i n p next st t =
      (i < used → run s same shut rec p st t ≡ run s same shut rec (next (get_or entries i 0)) (at+ n st) t) × (used ≤ i → run s same shut rec p st t ≡ out (refused Syntax) (at+ n st) t)

  -- where a digit stands, p is that name, or that type, of the memo as it stands at this moment
  abbrev pub RecallsName : {A : Type 0} → Reading A → (ℕ → Reading A) → Type 0
  RecallsName p next = (st : State) (t : T) → is_digit (byte_at s st.at) ≡ true → Recalls st.memo.names st.memo.names_len (byte_at s st.at - code "0") 1 p next st t

  abbrev pub RecallsType : {A : Type 0} → Reading A → (ℕ → Reading A) → Type 0
  RecallsType p next = (st : State) (t : T) → is_digit (byte_at s st.at) ≡ true → Recalls st.memo.types st.memo.types_len (byte_at s st.at - code "0") 1 p next st t

  -- in the three readers that take one (a type's digit may stand behind `$` or `$$C`: `spelled`), and in the two lists, where its place is closed and the list goes on
  pub record Digits : Type 0 where
    pub unqualified : (function : Bool) → RecallsName (unqualified_name function) (λ e. ret (e, false))
    pub nested : RecallsName nested_name ret
    pub type : (sc : ℕ) → RecallsType (var_type sc) ret
    pub spelled : (sc i n : ℕ) (st : State) (t : T) → type_reference (drop st.at s) ≡ Some (i, n) → Recalls st.memo.types st.memo.types_len i n (var_type sc) ret st t
    pub scope : (turns last : ℕ) → RecallsName (scope_from (suc turns) last) (λ e. place NamePlace e last >>= scope_from turns)
    pub params : (turns last : ℕ) → RecallsType (params_from (suc turns) last) (λ e. place TypePlace e last >>= params_from turns)

  -- where `?A` begins a name of a scope and r stands behind it: `?A0x` with no hex digit is refused just after `0x`, and nothing else has changed; with n digits and `@` a node over
  -- `0x` and the digits is closed, and stored; without `0x` the memo is left as it was
  pub record Namespaces : Type 0 where
    pub no_digit : (st : State) (t : T) (r : List ℕ) → drop st.at s ≡ bytes "?A0x" ++ r → read_hex_digits r ≡ 0 → run s same shut rec nested_body st t ≡ out (refused Syntax) (at+ 4 st) t
    pub with-id :
        (st : State) (t : T) (r : List ℕ) (n : ℕ) → drop st.at s ≡ bytes "?A0x" ++ r → 1 ≤ n → read_hex_digits r ≡ n → starts (bytes "@") (drop n r) ≡ true →
        run s same shut rec nested_body st t ≡ run s same shut rec (close AnonymousId ((st.at + 2) ∷ (n + 2) ∷ []) [] >>= λ a. memorize_name a >> ret a) (at+ (n + 5) st) t
    pub no-id : (st : State) (t : T) (r : List ℕ) → drop st.at s ≡ bytes "?A" ++ r → starts (bytes "0x") r ≡ false → (run s same shut rec nested_body st t).state.memo ≡ st.memo

  -- with k more turns, from any state, the reading of a list is the same
  abbrev pub TurnsLast : (ℕ → ℕ → Reading ℕ) → Type 0
  TurnsLast list = (k last : ℕ) (st : State) (t : T) → run s same shut rec (list (length s - st.at + 1 + k) last) st t ≡ run s same shut rec (list (length s - st.at + 1) last) st t

  abbrev pub EnoughTurns : Type 0
  EnoughTurns = TurnsLast scope_from × TurnsLast params_from

-- An answered reading of a template hands back the memo that it found: the fault that this project exists for.
abbrev pub TemplatesHandBack : Type 0
TemplatesHandBack = OfEachReading HandsBack

-- A digit yields that entry of the memo as it stands at that moment, and changes nothing but the place (and, in a list, counts its place).
abbrev pub DigitsRecall : Type 0
DigitsRecall = OfEachReading Digits

-- M-100. Of anonymous namespaces those with an id are stored, which has a digit, and no others.
abbrev pub NamespacesStored : Type 0
NamespacesStored = OfEachReading Namespaces

-- Whoever stores a name: the symbol's own memo holds no namespace without an id when a call answers, or when its text is cut.
abbrev pub StoredHaveIds : Type 0
StoredHaveIds =
    (f depth : ℕ) (s t b : List ℕ) → says (0 ∷ 6 ∷ []) (demangled f depth s t (length b)) ≡ true →
    (i : ℕ) → i < (own s).state.memo.names_len → cell_of (table_after f depth s t) (get_or (own s).state.memo.names i 0) KIND ≡ kind_number Anonymous → ⊥

-- Two with different ids are never equal in the memo: what equals one there, in the reading over a table or over a list of nodes, is a namespace with the same id.
abbrev pub SameId : List ℕ → List ℕ → ℕ → ℕ → Type 0
SameId t s a b = cell_of t a KIND ≡ kind_number AnonymousId → (cell_of t b KIND ≡ kind_number AnonymousId) × (bytes_of t s a ≡ bytes_of t s b)

abbrev pub IdsApart : Type 0
IdsApart =
    (s : List ℕ) (used a b : ℕ) →
    ((t : List ℕ) → same_table s used t a b ≡ true → SameId (counted used t) s a b) × ((ns : List Node) → same_nodes s used ns a b ≡ true → SameId (cells_of ns) s a b)

-- Each id among the nodes that an answered call leaves, or one whose text is cut, has a digit behind its `0x`. (A lent table may have one with none: its form is as it was.)
abbrev pub IdsHaveDigits : Type 0
IdsHaveDigits =
    (f depth : ℕ) (s t b : List ℕ) → says (0 ∷ 6 ∷ []) (demangled f depth s t (length b)) ≡ true →
    (n : ℕ) → n < (own s).state.used → cell_of (table_after f depth s t) n KIND ≡ kind_number AnonymousId → 3 ≤ cell_of (table_after f depth s t) n Q

-- The turns that the grammar gives a list never run out.
abbrev pub ListsEnd : Type 0
ListsEnd = OfEachReading EnoughTurns

-- M-106. The two halves of a reference and of an rvalue reference to the same type differ in the mark alone, whatever was written before (`l` is its last byte).
pub record Halves (f : ℕ) (x s : List ℕ) (a b c : Tree) (l : ℕ) : Type 0 where
  pub before : List ℕ
  pub behind : List ℕ
  pub reference : write_pre f (node (kind_number Ref) x s a b c) l ≡ before ++ bytes "&" ++ behind
  pub rvalue : write_pre f (node (kind_number RValueRef) x s a b c) l ≡ before ++ bytes "&&" ++ behind
  pub second : write_post f (node (kind_number RValueRef) x s a b c) l ≡ write_post f (node (kind_number Ref) x s a b c) l

abbrev pub ReferencesAlike : Type 0
ReferencesAlike = (f : ℕ) (x s : List ℕ) (a b c : Tree) (l : ℕ) → Halves f x s a b c l

-- DEMAND 3: more room never changes a word, and the reported counts suffice exactly

-- An answer is the same with no less depth, nodes and room: the counts, the text and the nodes.
abbrev pub MoreAnswered : Type 0
MoreAnswered =
    (f depth depth' : ℕ) (s t t' b b' : List ℕ) (c : Counts) → demangled f depth s t (length b) ≡ Ok c → depth ≤ depth' → depth' ≤ deepest_reading → nodes t ≤ nodes t' → length b ≤ length b' →
    (demangled f depth' s t' (length b') ≡ Ok c) × (take c.text (text_after f depth' s t' b') ≡ take c.text (text_after f depth s t b))
    × (take (c.nodes * 12) (table_after f depth' s t') ≡ take (c.nodes * 12) (table_after f depth s t))

-- So is a refusal for want of a derivation.
abbrev pub MoreRefused : Type 0
MoreRefused =
    (f depth depth' : ℕ) (s t t' : List ℕ) (room room' at : ℕ) → demangled f depth s t room ≡ Err (NoDerivation at) → depth ≤ depth' → depth' ≤ deepest_reading → nodes t ≤ nodes t' →
    demangled f depth' s t' room' ≡ Err (NoDerivation at)

-- A text cut for room begins the text of a second call with no less depth, nodes and room.
abbrev pub CutBegins : Type 0
CutBegins =
    (f depth depth' : ℕ) (s t t' b b' : List ℕ) (c : Counts) → demangled f depth s t (length b) ≡ Err (NoRoom c) → depth ≤ depth' → depth' ≤ deepest_reading → nodes t ≤ nodes t' → length b ≤ length b' →
    text_after f depth s t b ≡ take (length b) (text_after f depth' s t' b')

-- 4 and 5 come exactly when, before any other, the grammar's own count passes that limit; 6 exactly when none does and the text of its tree is longer than the room.
abbrev pub Blames : Type 0
Blames =
    (l : Limit) (f depth : ℕ) (s t : List ℕ) (room at : ℕ) → (demangled f depth s t room ≡ Err (refusal (name l) at)) ↔ Blamed l f depth s t at

abbrev pub Spills : Type 0
Spills =
    (f depth : ℕ) (s t : List ℕ) (room : ℕ) (c : Counts) → (demangled f depth s t room ≡ Err (NoRoom c)) ↔ Spilled f depth s t room c

-- The reported counts suffice.
abbrev pub Suffices : Type 0
Suffices =
    (f depth depth' : ℕ) (s t t' : List ℕ) (room room' : ℕ) (c : Counts) → demangled f depth s t room ≡ Ok c → c.depth ≤ depth' → depth' ≤ deepest_reading → c.nodes ≤ nodes t' → c.text ≤ room' →
    demangled f depth' s t' room' ≡ Ok c

-- One smaller, or smaller still, is refused by that limit's name: depth, nodes, room.
abbrev pub TooShallow : Type 0
TooShallow =
    (f depth depth' : ℕ) (s t t' : List ℕ) (room room' : ℕ) (c : Counts) → demangled f depth s t room ≡ Ok c → depth' < c.depth → c.nodes ≤ nodes t' →
    (at : ℕ) × (demangled f depth' s t' room' ≡ Err (TooDeep at))

abbrev pub TooFew : Type 0
TooFew =
    (f depth depth' : ℕ) (s t t' : List ℕ) (room room' : ℕ) (c : Counts) → demangled f depth s t room ≡ Ok c → c.depth ≤ depth' → depth' ≤ deepest_reading → nodes t' < c.nodes →
    (at : ℕ) × (demangled f depth' s t' room' ≡ Err (NoNode at))

abbrev pub TooSmall : Type 0
TooSmall =
    (f depth depth' : ℕ) (s t t' : List ℕ) (room room' : ℕ) (c : Counts) → demangled f depth s t room ≡ Ok c → c.depth ≤ depth' → depth' ≤ deepest_reading → c.nodes ≤ nodes t' → room' < c.text →
    demangled f depth' s t' room' ≡ Err (NoRoom (counts_in room' c))

-- The writer alone owes the same for depth and text room, on one unchanged table: exactly when it answers, refuses 4 and refuses 6;
abbrev pub AloneAccepts : Type 0
AloneAccepts =
    (f depth : ℕ) (s t : List ℕ) (room : ℕ) (c : Counts) →
    (written_alone f depth s t room ≡ Ok c) ↔ (Rooted f depth s t × (root_height t ≤ depth) × (length (root_words f s t) ≤ room) × (c ≡ root_counts f s t))

abbrev pub AloneBlames : Type 0
AloneBlames =
    (f depth : ℕ) (s t : List ℕ) (room at : ℕ) →
    (written_alone f depth s t room ≡ Err (TooDeep at)) ↔ (Rooted f depth s t × (depth < root_height t) × (at ≡ 0))

abbrev pub AloneSpills : Type 0
AloneSpills =
    (f depth : ℕ) (s t : List ℕ) (room : ℕ) (c : Counts) →
    (written_alone f depth s t room ≡ Err (NoRoom c)) ↔ (Rooted f depth s t × (root_height t ≤ depth) × (room < length (root_words f s t)) × (c ≡ counts_in room (root_counts f s t)))

-- more changes no word, and a cut text begins the whole;
abbrev pub AloneMoreAnswered : Type 0
AloneMoreAnswered =
    (f depth depth' : ℕ) (s t b b' : List ℕ) (c : Counts) → written_alone f depth s t (length b) ≡ Ok c → depth ≤ depth' → depth' ≤ deepest_reading → length b ≤ length b' →
    (written_alone f depth' s t (length b') ≡ Ok c) × (take c.text (text_alone f depth' s t b') ≡ take c.text (text_alone f depth s t b))

abbrev pub AloneCutBegins : Type 0
AloneCutBegins =
    (f depth depth' : ℕ) (s t b b' : List ℕ) (c : Counts) → written_alone f depth s t (length b) ≡ Err (NoRoom c) → depth ≤ depth' → depth' ≤ deepest_reading → length b ≤ length b' →
    text_alone f depth s t b ≡ take (length b) (text_alone f depth' s t b')

-- the reported counts suffice, and less is refused by that limit's name.
abbrev pub AloneSuffices : Type 0
AloneSuffices =
    (f depth depth' : ℕ) (s t : List ℕ) (room room' : ℕ) (c : Counts) → written_alone f depth s t room ≡ Ok c → c.depth ≤ depth' → depth' ≤ deepest_reading → c.text ≤ room' →
    written_alone f depth' s t room' ≡ Ok c

abbrev pub AloneTooShallow : Type 0
AloneTooShallow =
    (f depth depth' : ℕ) (s t : List ℕ) (room room' : ℕ) (c : Counts) → written_alone f depth s t room ≡ Ok c → depth' < c.depth → written_alone f depth' s t room' ≡ Err (TooDeep 0)

abbrev pub AloneTooSmall : Type 0
AloneTooSmall =
    (f depth depth' : ℕ) (s t : List ℕ) (room room' : ℕ) (c : Counts) → written_alone f depth s t room ≡ Ok c → c.depth ≤ depth' → depth' ≤ deepest_reading → room' < c.text →
    written_alone f depth' s t room' ≡ Err (NoRoom (counts_in room' c))

-- The reading call writes what the writer alone writes on its table: the same answer, at offset 0, and the same text.
abbrev pub AloneAgrees : Type 0
AloneAgrees =
    (f depth : ℕ) (s t b : List ℕ) (c : Counts) → demangled f depth s t (length b) ≡ Ok c →
    (written_alone f depth s (take (c.nodes * 12) (table_after f depth s t)) (length b) ≡ Ok (record { offset = 0; depth = c.depth; nodes = c.nodes; text = c.text }))
    × (text_alone f depth s (take (c.nodes * 12) (table_after f depth s t)) b ≡ text_after f depth s t b)

-- ALL OF THEM
pub record Promises : Type 0 where
  pub read-numbers : ReadNumbers
  pub write-numbers : WriteNumbers
  pub name-numbers : NameNumbers
  pub reports : Reports
  pub known-words : KnownWords
  pub read-gated : ReadGated
  pub write-gated : WriteGated
  pub name-gated : NameGated
  pub write-tables : WriteTables
  pub name-tables : NameTables
  pub name-accepts : NameAccepts
  pub one-read : OneRead
  pub one_written : OneWritten
  pub one-named : OneNamed
  pub one-part : OnePart
  pub number-cases : NumberCases
  pub bad-digits : BadDigits
  pub answered-leaves : AnsweredLeaves
  pub syntax-leaves : SyntaxLeaves
  pub limit-leaves : LimitLeaves
  pub full-leaves : FullLeaves
  pub nothing_left : NothingLeft
  pub alone-nothing-left : AloneNothingLeft
  pub alone-answered-leaves : AloneAnsweredLeaves
  pub alone-full-leaves : AloneFullLeaves
  pub zero-counts : ZeroCounts
  pub old-contents : OldContents
  pub accepts : Accepts
  pub rejects : Rejects
  pub templates-hand-back : TemplatesHandBack
  pub digits-recall : DigitsRecall
  pub namespaces-stored : NamespacesStored
  pub stored-have-ids : StoredHaveIds
  pub ids-apart : IdsApart
  pub ids-have-digits : IdsHaveDigits
  pub lists-end : ListsEnd
  pub references-alike : ReferencesAlike
  pub more-answered : MoreAnswered
  pub more-refused : MoreRefused
  pub cut-begins : CutBegins
  pub blames : Blames
  pub spills : Spills
  pub suffices : Suffices
  pub too_shallow : TooShallow
  pub too_few : TooFew
  pub too_small : TooSmall
  pub alone-accepts : AloneAccepts
  pub alone-blames : AloneBlames
  pub alone-spills : AloneSpills
  pub alone-more-answered : AloneMoreAnswered
  pub alone-cut-begins : AloneCutBegins
  pub alone-suffices : AloneSuffices
  pub alone-too-shallow : AloneTooShallow
  pub alone-too-small : AloneTooSmall
  pub alone-agrees : AloneAgrees
