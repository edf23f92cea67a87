-- The public calls: what each answers, by number, and what it leaves in the table and the text. `f` is the flag word, `s` the symbol, `t` the table, `b` the text
-- buffer. Assumes nothing: these are definitions.
use Rattle.std.specs.Prelude.{ℕ, ◌+◌, ◌-◌, Bool, false, List, [], ◌∷◌, leb, ltb, eqb, length, get_or, set, Option, None, Some, Result, Ok, Err, is_ok}
use Rattle.scan.specs.Bytes.{pick}
use Rattle.node.specs.Cells as cells
use Rattle.node.specs.Cells.{nodes, cell_of}
use Rattle.node.specs.Kind.{kind_number, ParseResult, NonTemplate}
use Rattle.form.specs.Form.{well_formed}
use Rattle.meaning.specs.Tree.{part}
use Rattle.grammar.specs.declared.State.{State}
use Rattle.grammar.specs.declared.Refusal.{Refusal}
use Rattle.grammar.specs.declared.Refusal.TheVariants.{Syntax, Deep, Full}
use Rattle.reader.specs.declared.Unread as reading
use Rattle.reader.specs.declared.Unread.TheVariants as unread
use Rattle.reader.specs.Whole.{answered, table_left}
use Rattle.text.specs.Emit.{cut}
use Rattle.writer.specs.Written.{text_of, written}
use Rattle.gates.specs.declared.Closed.{Closed}
use Rattle.gates.specs.declared.Closed.TheVariants.{Call, Symbol, High}
use Rattle.gates.specs.Gates.{Gate, symbol_gate, gate}
use Rattle.farthingmoss.specs.declared.Counts.{Counts}
use Rattle.farthingmoss.specs.declared.Refused.{Refused}
use Rattle.farthingmoss.specs.declared.Refused.TheVariants.{NoSymbol, NotAscii, NoDerivation, TooDeep, NoNode, NoRoom, BadCall, BadTable}

-- a call's answer: its counts, or why it is refused
abbrev pub Answer : Type 0
Answer = Result Counts Refused

-- what a call reports: number, offset, depth, nodes and text length
abbrev pub report_of : Answer → List ℕ
report_of (Ok c) = 0 ∷ c.offset ∷ c.depth ∷ c.nodes ∷ c.text ∷ []
report_of (Err NoSymbol) = 1 ∷ 0 ∷ 0 ∷ 0 ∷ 0 ∷ []
report_of (Err (NotAscii at)) = 2 ∷ at ∷ 0 ∷ 0 ∷ 0 ∷ []
report_of (Err (NoDerivation at)) = 3 ∷ at ∷ 0 ∷ 0 ∷ 0 ∷ []
report_of (Err (TooDeep at)) = 4 ∷ at ∷ 0 ∷ 0 ∷ 0 ∷ []
report_of (Err (NoNode at)) = 5 ∷ at ∷ 0 ∷ 0 ∷ 0 ∷ []
report_of (Err (NoRoom c)) = 6 ∷ c.offset ∷ c.depth ∷ c.nodes ∷ c.text ∷ []
report_of (Err BadCall) = 7 ∷ 0 ∷ 0 ∷ 0 ∷ 0 ∷ []
report_of (Err BadTable) = 8 ∷ 0 ∷ 0 ∷ 0 ∷ 0 ∷ []

-- the refusal of a closed gate: 7, 1 and 2
abbrev pub closed : Closed → Refused
closed Call = BadCall
closed Symbol = NoSymbol
closed (High at) = NotAscii at

abbrev pub through : Gate → Answer → Answer
through (Ok x) a = a
through (Err g) a = Err (closed g)

-- what a call leaves: where it is refused before, all is as it was
abbrev pub kept : Gate → List ℕ → List ℕ → List ℕ
kept (Ok x) after was = after
kept (Err g) after was = was

-- a text that fitted: 0; or 6 where it did not and fills the buffer's room
abbrev pub fitted : ℕ → ℕ → ℕ → ℕ → Option ℕ → Answer
fitted offset depth nodes room (Some n) = Ok (record { offset = offset; depth = depth; nodes = nodes; text = n })
fitted offset depth nodes room None = Err (NoRoom (record { offset = offset; depth = depth; nodes = nodes; text = room }))

-- 3, 4 and 5
abbrev pub refusal : Refusal → ℕ → Refused
refusal Syntax at = NoDerivation at
refusal Deep at = TooDeep at
refusal Full at = NoNode at

-- the answer to a reading that left the table t and ended in st, and what it leaves in the text
abbrev pub answer_of : ℕ → List ℕ → List ℕ → ℕ → Result ℕ reading.Unread → State → Answer
answer_of f s t room (Ok n) st = fitted st.at st.deep st.used room (written room (text_of f t s (n + 1)))
answer_of f s t room (Err unread.Outside) st = Err NoSymbol
answer_of f s t room (Err (unread.Refused why)) st = Err (refusal why st.at)

abbrev pub text_left : ℕ → List ℕ → List ℕ → List ℕ → Result ℕ reading.Unread → List ℕ
text_left f s t b (Ok n) = cut b (text_of f t s (n + 1))
text_left f s t b (Err why) = b

-- read and write
unfoldable pub demangled : ℕ → ℕ → List ℕ → List ℕ → ℕ → Answer
demangled f depth s t room = through (gate f depth s) (answer_of f s (table_left s depth t) room (answered s depth t).answer (answered s depth t).state)

unfoldable pub table_after : ℕ → ℕ → List ℕ → List ℕ → List ℕ
table_after f depth s t = kept (gate f depth s) (table_left s depth t) t

unfoldable pub text_after : ℕ → ℕ → List ℕ → List ℕ → List ℕ → List ℕ
text_after f depth s t b = kept (gate f depth s) (text_left f s (table_left s depth t) b (answered s depth t).answer) b

-- write alone, for a symbol of len bytes: the last node lent is a ParseResult (3), and all are well formed
unfoldable pub rooted : ℕ → List ℕ → Bool
rooted len t = pick (eqb (nodes t) 0) false (pick (well_formed t len (nodes t)) (eqb (cell_of t (nodes t - 1) cells.KIND) (kind_number ParseResult)) false)

abbrev pub root_height : List ℕ → ℕ
root_height t = cell_of t (nodes t - 1) cells.HEIGHT

-- 8, then 4, then 6; offsets are 0
unfoldable pub root_answer : ℕ → ℕ → List ℕ → List ℕ → ℕ → Answer
root_answer f depth s t room =
    pick (rooted (length s) t) (pick (leb (root_height t) depth) (fitted 0 (root_height t) (nodes t) room (written room (text_of f t s (nodes t)))) (Err (TooDeep 0))) (Err BadTable)

unfoldable pub root_text : ℕ → ℕ → List ℕ → List ℕ → List ℕ → List ℕ
root_text f depth s t b = pick (rooted (length s) t) (pick (leb (root_height t) depth) (cut b (text_of f t s (nodes t))) b) b

unfoldable pub written_alone : ℕ → ℕ → List ℕ → List ℕ → ℕ → Answer
written_alone f depth s t room = through (gate f depth s) (root_answer f depth s t room)

unfoldable pub text_alone : ℕ → ℕ → List ℕ → List ℕ → List ℕ → List ℕ
text_alone f depth s t b = kept (gate f depth s) (root_text f depth s t b) b

-- the name question: node n of a well-formed table is a plain name (NonTemplate, 10)
unfoldable pub name_ok : ℕ → List ℕ → ℕ → Bool
name_ok len t n = pick (well_formed t len (nodes t)) (pick (ltb n (nodes t)) (eqb (cell_of t n cells.KIND) (kind_number NonTemplate)) false) false

unfoldable pub name_answer : List ℕ → List ℕ → ℕ → Answer
name_answer s t n = through (symbol_gate s) (pick (name_ok (length s) t n) (Ok (record { offset = 0; depth = 0; nodes = 0; text = 0 })) (Err BadTable))

-- that part of the symbol; its empty beginning on a refusal
unfoldable pub name_of : List ℕ → List ℕ → ℕ → List ℕ
name_of s t n = kept (symbol_gate s) (pick (name_ok (length s) t n) (part s (cell_of t n cells.P) (cell_of t n cells.Q)) []) []

-- five places of a caller's report, filled
abbrev pub filled : List ℕ → ℕ → ℕ → ℕ → ℕ → ℕ → List ℕ
filled out number offset depth nodes text = set (set (set (set (set out 0 number) 1 offset) 2 depth) 3 nodes) 4 text

abbrev pub reported : Answer → List ℕ → List ℕ
reported a out = filled out (get_or (report_of a) 0 0) (get_or (report_of a) 1 0) (get_or (report_of a) 2 0) (get_or (report_of a) 3 0) (get_or (report_of a) 4 0)

-- the report of the name question: an answered one has the name's start and length in its last two places
abbrev pub name_report : List ℕ → List ℕ → ℕ → List ℕ → List ℕ
name_report s t n out = pick (is_ok (name_answer s t n)) (filled (reported (name_answer s t n) out) 0 0 0 (cell_of t n cells.P) (cell_of t n cells.Q)) (reported (name_answer s t n) out)
