-- What each answer of a reading call leaves in the table and the text, and that what stood there before does not matter. Assumes nothing.
use Prim.Native.Nat.{ℕ, ◌*◌}
use mathlib.Core.Bool.{Bool, true, false}
use mathlib.Core.Path.{◌≡◌, refl, sym, ap, ◌∙◌}
use mathlib.Core.List.{List, [], ◌∷◌, ◌++◌}
use native.Mathlib.Omega.{arith}
use lib.ListN.{length, drop}
use Rattle.std.specs.Prelude.{Ok, Err}
use Rattle.node.specs.Cells.{nodes}
use Rattle.grammar.specs.Program.{Reply, Out}
use Rattle.grammar.specs.Counts.{Node, bare}
use Rattle.grammar.specs.Table.{cells_of, same_nodes}
use Rattle.grammar.specs.Grammar.{Parse, body}
use Rattle.grammar.specs.declared.State.{State}
use Rattle.grammar.proofs.First.{settled-first}
use Rattle.grammar.proofs.Honest.{HonestLog, honest-at, reads-honest}
use Rattle.reader.specs.Whole.{start, whole, cells_left}
use Rattle.farthingmoss.specs.declared.Counts.{Counts}
use Rattle.farthingmoss.specs.declared.Refused.TheVariants.{NoSymbol, NotAscii, NoDerivation, TooDeep, NoNode, NoRoom, BadCall, BadTable}
use Rattle.gates.specs.Gates.{Gate, gate}
use Rattle.farthingmoss.specs.Call.{Answer, demangled, table_after, text_after}
use Rattle.gates.proofs.Opens.{open-low}
use Rattle.promises.specs.Promises.{own, own_nodes, own_text, says, zeroed, AnsweredLeaves, SyntaxLeaves, LimitLeaves, FullLeaves, NothingLeft, OldContents}
use Rattle.promises.proofs.Reading.{said, said-any, wrote, open-answers, open-leaves, open-writes, within-leaves, within-writes, is_read, refusal-read}
use Rattle.promises.proofs.Grammar.{impossible, nodes-left, writes, begins, accepted, spilled, rejected}
use Rattle.promises.proofs.Budgets.{more-text}
use Rattle.scan.specs.Limits.{deepest_reading}

said_read : (f : ℕ) (s : List ℕ) (room : ℕ) (r : Reply ℕ) (st : State) (ns : List Node) → is_read (said f s room r st ns) ≡ true
said_read = said-any (λ (a : Answer). is_read a ≡ true) (λ c. refl) (λ c. refl) refusal-read

-- 1, 2 and 7 come of no reading
not-read : (a : Answer) → says (1 ∷ 2 ∷ 7 ∷ []) a ≡ true → is_read a ≡ false
not-read (Ok c) e = cc
not-read (Err NoSymbol) e = refl
not-read (Err (NotAscii at)) e = refl
not-read (Err (NoDerivation at)) e = cc
not-read (Err (TooDeep at)) e = cc
not-read (Err (NoNode at)) e = cc
not-read (Err (NoRoom c)) e = cc
not-read (Err BadCall) e = refl
not-read (Err BadTable) e = refl

module _ (f depth : ℕ) (s t b : List ℕ) where
  abbrev Same : Type 0
  Same = (table_after f depth s t ≡ t) × (text_after f depth s t b ≡ b)

  gate-left : (g : Gate) → gate f depth s ≡ g → (g ≡ Ok tt → Same) → Same
  unfolding table_after text_after
  gate-left (Ok tt) e k = k refl
  gate-left (Err g) e k = (rw e, rw e)

  untouched : is_read (demangled f depth s t (length b)) ≡ false → Same
  untouched e =
      gate-left (gate f depth s) refl
      (λ o. impossible (let z : ◌≡◌ {A = Bool} true false = sym (said_read f s (length b) (whole s depth t).reply (whole s depth t).state (whole s depth t).cells) ∙ sym (ap is_read (open-answers f depth s t o (length b))) ∙ e in cc))

pub nothing_left : NothingLeft
nothing_left f depth s t b e = untouched f depth s t b (not-read (demangled f depth s t (length b)) e)

pub answered-leaves : AnsweredLeaves
answered-leaves f depth s t b c e =
    let r = accepted f depth s t (length b) e in
    let n : (own s).state.used ≡ c.nodes = ap (λ (x : Counts). x.nodes) (sym r.counts) in
    let z : length (own_text f s r.root) ≡ c.text = ap (λ (x : Counts). x.text) (sym r.counts) in
    (r.root, r.derives, nodes-left r.holds r.root r.derives ∙ ap (λ k. cells_of (own_nodes s) ++ drop (k * 12) t) n, writes r.holds r.root b r.derives r.fits ∙ ap (λ k. own_text f s r.root ++ drop k b) z)

pub full-leaves : FullLeaves
full-leaves f depth s t b c e =
    let r = spilled f depth s t (length b) e in
    let n : (own s).state.used ≡ c.nodes = ap (λ (x : Counts). x.nodes) (sym r.counts) in
    (r.root, r.derives, nodes-left r.holds r.root r.derives ∙ ap (λ k. cells_of (own_nodes s) ++ drop (k * 12) t) n, begins r.holds r.root b r.derives r.over)

-- a reading and each of its demands have as many nodes as they count
own-honest : (s : List ℕ) → HonestLog (own s).state.used (own s).cells
own-honest s = reads-honest body (same_nodes s) s deepest_reading Parse start (record { nodes = []; asked = [] }) (record { counted = refl; demands = tt })

pub syntax-leaves : SyntaxLeaves
syntax-leaves f depth s t b at e =
    let r = rejected f depth s t (length b) e in
    (within-leaves r.holds ∙ rw r.refuses (ap (λ k. zeroed k t) (sym (own-honest s).counted)), within-writes r.holds b ∙ rw r.refuses)

pub limit-leaves : LimitLeaves
limit-leaves l f depth s t b at w =
    let z = settled-first depth (nodes t) (bare (own s)) w.first in
    let h = honest-at w.first.before w.demand w.first.after (rw w.first.is at (own-honest s).demands) in
    (open-leaves f depth s t w.opens ∙ ap (λ (o : Out ℕ (List Node)). cells_left o.reply o.cells ++ drop (length o.cells * 12) t) z ∙ ap (λ k. zeroed k t) (sym h), open-writes f depth s t w.opens b ∙ ap (λ (o : Out ℕ (List Node)). wrote f s b o.reply o.cells) z)

-- what stood in the table does not matter: a call asks for its room alone
same-gate : (f depth : ℕ) (s t t' : List ℕ) (room : ℕ) (g : Gate) → gate f depth s ≡ g → (g ≡ Ok tt → demangled f depth s t room ≡ demangled f depth s t' room) → demangled f depth s t room ≡ demangled f depth s t' room
unfolding demangled
same-gate f depth s t t' room (Ok tt) o k = k refl
same-gate f depth s t t' room (Err g) o k = rw o

pub old-contents : OldContents
old-contents f depth s t t' e = (
  λ room. same-gate f depth s t t' room (gate f depth s) refl (λ o. open-answers f depth s t o room ∙ rw e (sym (open-answers f depth s t' o room))),
  λ b b' c z a. sym (more-text f depth s t (length b) a depth t' b b' (omega arith) (open-low f depth s (accepted f depth s t (length b) a).holds.opens) (omega arith) refl (omega arith)),
)
