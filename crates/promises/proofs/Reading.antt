-- What a call whose gate is open answers and leaves, over the written grammar's own reading of the symbol.
--     open-answers     a call's answer is that of the reading that the budgets settle, by its nodes alone
--     within-answers   budgets that hold its counts: the call is the reading itself
--     is_read           which answers come of a reading
--     within           only such a call answers 0, 3 or 6
-- Assumes nothing.
use Prim.Native.Nat.{ℕ, ◌+◌, ◌*◌, ◌≤◌, ◌<◌}
use mathlib.Core.Bool.{Bool, true, false, cond}
use mathlib.Core.Path.{◌≡◌, refl, sym, ap, subst, ◌∙◌}
use mathlib.Core.List.{List, [], ◌∷◌, ◌++◌}
use native.Mathlib.Omega.{arith}
use borrow.Author.Tests.{leb-true, le-leb, lt-ltb, ltb-true}
use lib.Dec.{leb, ltb, eqb}
use lib.ListN.{length, drop, length-append, get_or-append}
use Rattle.std.specs.Prelude.{None, Some, Ok, Err}
use Rattle.scan.specs.Bytes.{pick}
use Rattle.node.specs.Cells.{nodes, cell_of}
use Rattle.meaning.specs.Tree.{Tree}
use Rattle.meaning.proofs.Trees.{tree-kept}
use Rattle.serializer.specs.Serializer.{serialize}
use Rattle.grammar.specs.Program.{Reply, found, refused, Out, out}
use Rattle.grammar.specs.Counts.{Node, read_nodes, settle, fits, bare}
use Rattle.grammar.specs.Table.{cells_of, same_nodes}
use Rattle.grammar.specs.Grammar.{Parse, body}
use Rattle.grammar.specs.declared.State.{State}
use Rattle.grammar.specs.declared.Refusal.{Refusal}
use Rattle.grammar.specs.declared.Refusal.TheVariants.{Syntax, Deep, Full}
use Rattle.grammar.proofs.Demands.{settles, suffices, shallow, cramped, stands, passed, fits_low, reports}
use Rattle.grammar.proofs.First.{stopped}
use Rattle.grammar.proofs.Formed as formed
use Rattle.reader.specs.Whole.{start, whole, inside, told, cells_left}
use Rattle.text.specs.Emit.{cut}
use Rattle.writer.specs.Written.{text_of, written}
use Rattle.gates.specs.declared.Closed.TheVariants.{Call, Symbol, High}
use Rattle.farthingmoss.specs.declared.Counts.{Counts}
use Rattle.farthingmoss.specs.declared.Refused.TheVariants.{NoSymbol, NotAscii, NoDerivation, TooDeep, NoNode, NoRoom, BadCall, BadTable}
use Rattle.gates.specs.Gates.{Gate, known_flags, symbol_gate, gate}
use Rattle.farthingmoss.specs.Call.{Answer, through, fitted, refusal, answer_of, text_left, demangled, table_after, text_after}
use Rattle.gates.proofs.Opens.{open-low}
use Rattle.promises.specs.Promises.{says, own, Within}
use Rattle.scan.specs.Limits.{longest_symbol, Short, deepest_reading}

-- an open gate: the symbol is short, and the gate is open for every other depth up to the deepest reading
call-held : (b : Bool) (g : Gate) → pick b g (Err Call) ≡ Ok tt → (b ≡ true) × (g ≡ Ok tt)
call-held true g e = (refl, e)
call-held false g e = (cc, cc)

symbol-held : (b c : Bool) (g : Gate) → pick b (Err Symbol) (pick c g (Err Symbol)) ≡ Ok tt → c ≡ true
symbol-held true c g e = cc
symbol-held false true g e = refl
symbol-held false false g e = cc

gate-inner : (f depth : ℕ) (s : List ℕ) → gate f depth s ≡ Ok tt → pick (known_flags f) (symbol_gate s) (Err Call) ≡ Ok tt
unfolding gate
gate-inner f depth s e = (call-held (leb depth deepest_reading) _ e).1

pub open-short : (f depth : ℕ) (s : List ℕ) → gate f depth s ≡ Ok tt → Short s
unfolding symbol_gate
open-short f depth s e = leb-true _ _ (symbol-held (eqb (length s) 0) (leb (length s) longest_symbol) _ (call-held (known_flags f) (symbol_gate s) (gate-inner f depth s e)).1)

pub open-again : (f depth depth' : ℕ) (s : List ℕ) → gate f depth s ≡ Ok tt → depth' ≤ deepest_reading → gate f depth' s ≡ Ok tt
unfolding gate
open-again f depth depth' s e l = rw (le-leb depth' deepest_reading l) (gate-inner f depth s e)

open-inside : (f depth : ℕ) (s : List ℕ) → gate f depth s ≡ Ok tt → inside s depth ≡ true
open-inside f depth s e = rw (le-leb (length s) longest_symbol (open-short f depth s e), le-leb depth deepest_reading (open-low f depth s e))

-- what budgets make of the grammar's own reading
module _ (s : List ℕ) (depth room : ℕ) (low : depth ≤ deepest_reading) where
  settles-own : read_nodes body (same_nodes s) s depth room depth Parse start [] ≡ settle depth room (own s)
  settles-own = settles body (same_nodes s) s depth room low Parse start

  reply-own : {r : Reply ℕ} → (read_nodes body (same_nodes s) s depth room depth Parse start []).reply ≡ r → (settle depth room (own s)).reply ≡ r
  reply-own e = ap (λ (o : Out ℕ (List Node)). o.reply) (sym settles-own) ∙ e

  settles-enough : (own s).state.deep ≤ depth → (own s).state.used ≤ room → settle depth room (own s) ≡ bare (own s)
  settles-enough p q = sym settles-own ∙ suffices body (same_nodes s) s Parse start refl refl depth room low p q

  pub settles-shallow : depth < (own s).state.deep → (own s).state.used ≤ room → (settle depth room (own s)).reply ≡ refused Deep
  settles-shallow p q = reply-own (shallow body (same_nodes s) s Parse start refl refl depth room low p q)

  pub settles-cramped : (own s).state.deep ≤ depth → room < (own s).state.used → (settle depth room (own s)).reply ≡ refused Full
  settles-cramped p q = reply-own (cramped body (same_nodes s) s Parse start refl refl depth room low p q)

  settles-stands : passed (settle depth room (own s)).reply ≡ false → ((own s).state.deep ≤ depth) × ((own s).state.used ≤ room)
  settles-stands e = stands body (same_nodes s) s Parse start refl refl depth room low (ap (λ (o : Out ℕ (List Node)). passed o.reply) settles-own ∙ e)

  -- one that answers leaves a well-formed table, and its root is the last node
  settles-formed : Short s → (n : ℕ) → (settle depth room (own s)).reply ≡ found n → formed.Whole s n (settle depth room (own s)).state (settle depth room (own s)).cells
  settles-formed short n e =
      formed.grammar-formed s short depth room start refl refl refl refl (same_nodes s)
      (settles-own ∙ ap (λ (r : Reply ℕ). out r (settle depth room (own s)).state (settle depth room (own s)).cells) e)

-- within no budget it is refused for depth or room only where its own demands pass every depth
pub own-low : (s : List ℕ) (depth room : ℕ) → depth ≤ deepest_reading → fits depth room (own s).cells.asked ≡ true → passed (own s).reply ≡ true → ⊥
own-low s depth room low h e =
    let r = reports body (same_nodes s) s Parse start refl refl in
    let f = fits_low depth room (own s).cells.asked h in
    let d = stopped body (same_nodes s) s Parse start e in
    omega (arith, r.deep, f.0)

-- what references to the nodes mean does not depend on the cells behind them
pub cells-length : (ns : List Node) → length (cells_of ns) ≡ length ns * 12
cells-length [] = refl
cells-length (n ∷ ns) = omega (arith, cells-length ns)

cond-kept : (b : Bool) (x y : ℕ) → (b ≡ true → x ≡ y) → cond b x 0 ≡ cond b y 0
cond-kept true x y k = k refl
cond-kept false x y k = refl

module _ (ns : List Node) (tail : List ℕ) where
  cell-kept : (m j : ℕ) → m < length ns → cell_of (cells_of ns ++ tail) m j ≡ cell_of (cells_of ns) m j
  unfolding cell_of
  cell-kept m j l =
      rw (lt-ltb m (nodes (cells_of ns ++ tail)) (omega (arith, cells-length ns, length-append (cells_of ns) tail)), lt-ltb m (nodes (cells_of ns)) (omega (arith, cells-length ns)))
      (cond-kept (ltb j 12) _ _ (λ e. get_or-append (cells_of ns) tail 0 (m * 12 + j) (omega (arith, ltb-true j 12 e, cells-length ns))))

  text-kept : (f : ℕ) (s : List ℕ) (r : ℕ) → r ≤ length ns → text_of f (cells_of ns ++ tail) s r ≡ text_of f (cells_of ns) s r
  unfolding text_of
  text-kept f s r l = ap (λ (x : Tree). serialize f x 256) (tree-kept (cells_of ns) (cells_of ns ++ tail) s (length ns) cell-kept r l)

-- what a call answers to a reading, and leaves in the text, by its nodes alone
abbrev pub said : ℕ → List ℕ → ℕ → Reply ℕ → State → List Node → Answer
said f s room (found n) st ns = fitted st.at st.deep st.used room (written room (text_of f (cells_of ns) s (n + 1)))
said f s room (refused why) st ns = Err (refusal why st.at)

-- what holds of 0, 6 and the refusals of a reading holds of what a call answers to it
module _ (P : Answer → Type 0) (whole : (c : Counts) → P (Ok c)) (cut : (c : Counts) → P (Err (NoRoom c))) where
  fitted-any : (offset depth nodes room k : ℕ) (b : Bool) → P (fitted offset depth nodes room (pick b (Some k) None))
  fitted-any offset depth nodes room k true = whole _
  fitted-any offset depth nodes room k false = cut _

  pub said-any : ((why : Refusal) (at : ℕ) → P (Err (refusal why at))) → (f : ℕ) (s : List ℕ) (room : ℕ) (r : Reply ℕ) (st : State) (ns : List Node) → P (said f s room r st ns)
  unfolding written
  said-any k f s room (found n) st ns = fitted-any st.at st.deep st.used room _ (leb _ room)
  said-any k f s room (refused why) st ns = k why st.at

abbrev pub wrote : ℕ → List ℕ → List ℕ → Reply ℕ → List Node → List ℕ
wrote f s b (found n) ns = cut b (text_of f (cells_of ns) s (n + 1))
wrote f s b (refused why) ns = b

module _ (f : ℕ) (s : List ℕ) (tail : List ℕ) (ns : List Node) where
  answer-kept : (room : ℕ) (r : Reply ℕ) (st : State) → ((n : ℕ) → r ≡ found n → n + 1 ≤ length ns) → answer_of f s (cells_left r ns ++ tail) room (told r) st ≡ said f s room r st ns
  answer-kept room (found n) st k = rw (text-kept ns tail f s (n + 1) (k n refl))
  answer-kept room (refused why) st k = refl

  left-kept : (b : List ℕ) (r : Reply ℕ) → ((n : ℕ) → r ≡ found n → n + 1 ≤ length ns) → text_left f s (cells_left r ns ++ tail) b (told r) ≡ wrote f s b r ns
  left-kept b (found n) k = rw (text-kept ns tail f s (n + 1) (k n refl))
  left-kept b (refused why) k = refl

module _ (f depth : ℕ) (s t : List ℕ) (opens : gate f depth s ≡ Ok tt) where
  root-low : (n : ℕ) → (whole s depth t).reply ≡ found n → n + 1 ≤ length (whole s depth t).cells
  root-low n e = omega (arith, (settles-formed s depth (nodes t) (open-low f depth s opens) (open-short f depth s opens) n e).last)

  pub open-answers : (room : ℕ) → demangled f depth s t room ≡ said f s room (whole s depth t).reply (whole s depth t).state (whole s depth t).cells
  unfolding demangled
  open-answers room = rw (opens, open-inside f depth s opens) (answer-kept f s _ _ room _ _ root-low)

  pub open-leaves : table_after f depth s t ≡ cells_left (whole s depth t).reply (whole s depth t).cells ++ drop (length (whole s depth t).cells * 12) t
  unfolding table_after
  open-leaves = rw (opens, open-inside f depth s opens)

  pub open-writes : (b : List ℕ) → text_after f depth s t b ≡ wrote f s b (whole s depth t).reply (whole s depth t).cells
  unfolding text_after
  open-writes b = rw (opens, open-inside f depth s opens) (left-kept f s _ _ b _ root-low)

-- a call in budgets that hold the grammar's own counts is the reading itself
module _ {f depth : ℕ} {s t : List ℕ} (w : Within f depth s t) where
  within-whole : whole s depth t ≡ bare (own s)
  within-whole = settles-enough s depth (nodes t) (open-low f depth s w.opens) w.deep w.used

  pub within-answers : (room : ℕ) → demangled f depth s t room ≡ said f s room (own s).reply (own s).state (own s).cells.nodes
  within-answers room = open-answers f depth s t w.opens room ∙ ap (λ (o : Out ℕ (List Node)). said f s room o.reply o.state o.cells) within-whole

  pub within-leaves : table_after f depth s t ≡ cells_left (own s).reply (own s).cells.nodes ++ drop (length (own s).cells.nodes * 12) t
  within-leaves = open-leaves f depth s t w.opens ∙ ap (λ (o : Out ℕ (List Node)). cells_left o.reply o.cells ++ drop (length o.cells * 12) t) within-whole

  pub within-writes : (b : List ℕ) → text_after f depth s t b ≡ wrote f s b (own s).reply (own s).cells.nodes
  within-writes b = open-writes f depth s t w.opens b ∙ ap (λ (o : Out ℕ (List Node)). wrote f s b o.reply o.cells) within-whole

  pub within-formed : (n : ℕ) → (own s).reply ≡ found n → formed.Whole s n (own s).state (own s).cells.nodes
  within-formed =
      subst (λ (o : Out ℕ (List Node)). (n : ℕ) → o.reply ≡ found n → formed.Whole s n o.state o.cells) within-whole
      (settles-formed s depth (nodes t) (open-low f depth s w.opens) (open-short f depth s w.opens))

-- a call that reads the symbol answers 0, 3, 4, 5 or 6, and no other call does
abbrev pub is_read : Answer → Bool
is_read a = says (0 ∷ 3 ∷ 4 ∷ 5 ∷ 6 ∷ []) a

through-open : (g : Gate) (a : Answer) → is_read (through g a) ≡ true → g ≡ Ok tt
through-open (Ok tt) a e = refl
through-open (Err Call) a e = cc
through-open (Err Symbol) a e = cc
through-open (Err (High at)) a e = cc

pub demangled-open : (f depth : ℕ) (s t : List ℕ) (room : ℕ) → is_read (demangled f depth s t room) ≡ true → gate f depth s ≡ Ok tt
unfolding demangled
demangled-open f depth s t room e = through-open (gate f depth s) _ e

pub refusal-read : (why : Refusal) (at : ℕ) → is_read (Err (refusal why at)) ≡ true
refusal-read Syntax at = refl
refusal-read Deep at = refl
refusal-read Full at = refl

-- one that is not refused for depth or nodes
abbrev pub settles_all : Answer → Bool
settles_all a = says (0 ∷ 3 ∷ 6 ∷ []) a

settles-read : (a : Answer) → settles_all a ≡ true → is_read a ≡ true
settles-read (Ok c) e = refl
settles-read (Err NoSymbol) e = cc
settles-read (Err (NotAscii at)) e = cc
settles-read (Err (NoDerivation at)) e = refl
settles-read (Err (TooDeep at)) e = cc
settles-read (Err (NoNode at)) e = cc
settles-read (Err (NoRoom c)) e = refl
settles-read (Err BadCall) e = cc
settles-read (Err BadTable) e = cc

not-passed : (f : ℕ) (s : List ℕ) (room : ℕ) (r : Reply ℕ) (st : State) (ns : List Node) → settles_all (said f s room r st ns) ≡ true → passed r ≡ false
not-passed f s room (found n) st ns e = refl
not-passed f s room (refused Syntax) st ns e = refl
not-passed f s room (refused Deep) st ns e = cc
not-passed f s room (refused Full) st ns e = cc

-- is within its budgets
pub within : (f depth : ℕ) (s t : List ℕ) (room : ℕ) → settles_all (demangled f depth s t room) ≡ true → Within f depth s t
within f depth s t room e =
    let o = demangled-open f depth s t room (settles-read (demangled f depth s t room) e) in
    let p = not-passed f s room (whole s depth t).reply (whole s depth t).state (whole s depth t).cells (rw (open-answers f depth s t o room) at e) in
    let c = settles-stands s depth (nodes t) (open-low f depth s o) p in
    record { opens = o; deep = c.0; used = c.1 }
