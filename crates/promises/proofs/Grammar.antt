-- Demand 2: where the gate is open and the budgets hold the grammar's own counts, a call says what the written grammar derives, and no other call says so.
--     accepts, accepted, writes, leaves    a symbol that it accepts: the answer, the text and the table
--     refuses, rejected                    a symbol with no derivation
--     spills, spilled, begins              a text that does not fit
-- Assumes nothing.
use Prim.Native.Nat.{ℕ, ◌+◌, ◌*◌, ◌≤◌, ◌<◌}
use mathlib.Core.Bool.{Bool, true, false}
use mathlib.Core.Path.{◌≡◌, refl, sym, ap, ◌∙◌}
use mathlib.Core.List.{List, ◌++◌}
use native.Mathlib.Omega.{arith}
use borrow.Author.Tests.{le-leb, lt-leb, leb-true, leb-false}
use lib.Dec.{leb}
use lib.ListN.{length, take, drop}
use lib.Seq.{take_at}
use Rattle.std.specs.Prelude.{None, Some, Ok, Err}
use Rattle.scan.specs.Bytes.{pick}
use Rattle.grammar.specs.Program.{Reply, found, refused}
use Rattle.grammar.specs.Counts.{Node}
use Rattle.grammar.specs.Table.{cells_of}
use Rattle.grammar.specs.declared.State.{State}
use Rattle.grammar.specs.declared.Refusal.{Refusal}
use Rattle.grammar.specs.declared.Refusal.TheVariants.{Syntax, Deep, Full}
use Rattle.text.proofs.Cut.{cut_fits, cut-over}
use Rattle.writer.specs.Written.{text_of, written}
use Rattle.farthingmoss.specs.declared.Counts.{Counts}
use Rattle.farthingmoss.specs.declared.Refused.TheVariants.{NoDerivation, NoRoom}
use Rattle.farthingmoss.specs.Call.{Answer, fitted, refusal, demangled, table_after, text_after}
use Rattle.promises.specs.Promises.{own, own_text, own_counts, counts_in, Within, Accepted, Spilled, Rejected, Accepts, Rejects, Spills}
use Rattle.promises.proofs.Reading.{cells-length, said, settles_all, within, within-answers, within-leaves, within-writes, within-formed}

pub written-whole : (room : ℕ) (w : List ℕ) → length w ≤ room → written room w ≡ Some (length w)
unfolding written
written-whole room w l = rw (le-leb (length w) room l)

pub written-cut : (room : ℕ) (w : List ℕ) → room < length w → written room w ≡ None
unfolding written
written-cut room w l = rw (lt-leb (length w) room l)

module _ {f depth : ℕ} {s t : List ℕ} (w : Within f depth s t) where
  -- a symbol that the grammar accepts is answered, with the grammar's own counts
  pub accepts : (n room : ℕ) → (own s).reply ≡ found n → length (own_text f s n) ≤ room → demangled f depth s t room ≡ Ok (own_counts f s n)
  accepts n room e l = within-answers w room ∙ rw (e, written-whole room (own_text f s n) l)

  -- and the text begins with the text of the grammar's own tree
  pub writes : (n : ℕ) (b : List ℕ) → (own s).reply ≡ found n → length (own_text f s n) ≤ length b → text_after f depth s t b ≡ own_text f s n ++ drop (length (own_text f s n)) b
  writes n b e l = within-writes w b ∙ rw e (cut_fits b (own_text f s n) l)

  -- and the table with its nodes
  pub nodes-left : (n : ℕ) → (own s).reply ≡ found n → table_after f depth s t ≡ cells_of (own s).cells.nodes ++ drop ((own s).state.used * 12) t
  nodes-left n e = within-leaves w ∙ rw (e, (within-formed w n e).used)

  pub leaves : (n : ℕ) → (own s).reply ≡ found n → take ((own s).state.used * 12) (table_after f depth s t) ≡ cells_of (own s).cells.nodes
  leaves n e =
      ap (take ((own s).state.used * 12)) (nodes-left n e)
      ∙ take_at (cells_of (own s).cells.nodes) (drop ((own s).state.used * 12) t) ((own s).state.used * 12) (omega (arith, cells-length (own s).cells.nodes, (within-formed w n e).used))

  -- in a room too small for it the call is refused by room, and the buffer holds its beginning
  pub spills : (n room : ℕ) → (own s).reply ≡ found n → room < length (own_text f s n) → demangled f depth s t room ≡ Err (NoRoom (counts_in room (own_counts f s n)))
  spills n room e l = within-answers w room ∙ rw (e, written-cut room (own_text f s n) l)

  pub begins : (n : ℕ) (b : List ℕ) → (own s).reply ≡ found n → length b < length (own_text f s n) → text_after f depth s t b ≡ take (length b) (own_text f s n)
  begins n b e l = within-writes w b ∙ rw e (cut-over b (own_text f s n) (omega arith))

  -- a symbol with no derivation is refused, where the grammar's own reading ends
  pub refuses : (room : ℕ) → (own s).reply ≡ refused Syntax → demangled f depth s t room ≡ Err (NoDerivation (own s).state.at)
  refuses room e = within-answers w room ∙ rw e

pub impossible : {A : Type 0} → ◌≡◌ {A = ℕ} 0 1 → A
impossible z = absurd (omega arith)

pub fitted-whole : (offset depth nodes room k : ℕ) (b : Bool) (c : Counts) → fitted offset depth nodes room (pick b (Some k) None) ≡ Ok c → (b ≡ true) × (c ≡ record { offset = offset; depth = depth; nodes = nodes; text = k })
fitted-whole offset depth nodes room k true c e = (refl, cc)
fitted-whole offset depth nodes room k false c e = (cc, cc)

pub fitted-cut : (offset depth nodes room k : ℕ) (b : Bool) (c : Counts) → fitted offset depth nodes room (pick b (Some k) None) ≡ Err (NoRoom c) → (b ≡ false) × (c ≡ record { offset = offset; depth = depth; nodes = nodes; text = room })
fitted-cut offset depth nodes room k true c e = (cc, cc)
fitted-cut offset depth nodes room k false c e = (refl, cc)

fitted-other : (why : Refusal) (offset depth nodes room k : ℕ) (b : Bool) (at : ℕ) {A : Type 0} → fitted offset depth nodes room (pick b (Some k) None) ≡ Err (refusal why at) → A
fitted-other Syntax offset depth nodes room k true at e = impossible (cc)
fitted-other Syntax offset depth nodes room k false at e = impossible (cc)
fitted-other Deep offset depth nodes room k true at e = impossible (cc)
fitted-other Deep offset depth nodes room k false at e = impossible (cc)
fitted-other Full offset depth nodes room k true at e = impossible (cc)
fitted-other Full offset depth nodes room k false at e = impossible (cc)

refusal-one : (why was : Refusal) (place at : ℕ) → ◌≡◌ {A = Answer} (Err (refusal was place)) (Err (refusal why at)) → (◌≡◌ {A = Reply ℕ} (refused was) (refused why)) × (at ≡ place)
refusal-one Syntax Syntax place at e = (refl, cc)
refusal-one Syntax Deep place at e = (cc, cc)
refusal-one Syntax Full place at e = (cc, cc)
refusal-one Deep Syntax place at e = (cc, cc)
refusal-one Deep Deep place at e = (refl, cc)
refusal-one Deep Full place at e = (cc, cc)
refusal-one Full Syntax place at e = (cc, cc)
refusal-one Full Deep place at e = (cc, cc)
refusal-one Full Full place at e = (refl, cc)

module _ (f : ℕ) (s : List ℕ) (room : ℕ) (st : State) (ns : List Node) where
  said-answered : (r : Reply ℕ) (c : Counts) → said f s room r st ns ≡ Ok c →
      (n : ℕ) × (r ≡ found n) × (length (text_of f (cells_of ns) s (n + 1)) ≤ room) × (c ≡ record { offset = st.at; depth = st.deep; nodes = st.used; text = length (text_of f (cells_of ns) s (n + 1)) })
  unfolding written
  said-answered (found n) c e =
      let k : ℕ = length (text_of f (cells_of ns) s (n + 1)) in
      let h = fitted-whole st.at st.deep st.used room k (leb k room) c e in
      (n, refl, leb-true k room h.0, h.1)
  said-answered (refused Syntax) c e = impossible (cc)
  said-answered (refused Deep) c e = impossible (cc)
  said-answered (refused Full) c e = impossible (cc)

  said-cut : (r : Reply ℕ) (c : Counts) → said f s room r st ns ≡ Err (NoRoom c) →
      (n : ℕ) × (r ≡ found n) × (room < length (text_of f (cells_of ns) s (n + 1))) × (c ≡ record { offset = st.at; depth = st.deep; nodes = st.used; text = room })
  unfolding written
  said-cut (found n) c e =
      let k : ℕ = length (text_of f (cells_of ns) s (n + 1)) in
      let h = fitted-cut st.at st.deep st.used room k (leb k room) c e in
      (n, refl, leb-false k room h.0, h.1)
  said-cut (refused Syntax) c e = impossible (cc)
  said-cut (refused Deep) c e = impossible (cc)
  said-cut (refused Full) c e = impossible (cc)

  pub said-refused : (why : Refusal) (r : Reply ℕ) (at : ℕ) → said f s room r st ns ≡ Err (refusal why at) → (r ≡ refused why) × (at ≡ st.at)
  unfolding written
  said-refused why (found n) at e = fitted-other why st.at st.deep st.used room (length (text_of f (cells_of ns) s (n + 1))) (leb (length (text_of f (cells_of ns) s (n + 1))) room) at e
  said-refused why (refused was) at e = refusal-one why was st.at at e

-- no other call is answered so: 0, 6 and 3
module _ (f depth : ℕ) (s t : List ℕ) (room : ℕ) where
  says : {a : Answer} (w : Within f depth s t) → demangled f depth s t room ≡ a → said f s room (own s).reply (own s).state (own s).cells.nodes ≡ a
  says w e = sym (within-answers w room) ∙ e

  pub accepted : {c : Counts} → demangled f depth s t room ≡ Ok c → Accepted f depth s t room c
  accepted e =
      let w = within f depth s t room (ap settles_all e) in
      let d = said-answered f s room _ _ _ _ (says w e) in
      record { holds = w; root = d.0; derives = d.1; fits = d.2; counts = d.3 }

  pub spilled : {c : Counts} → demangled f depth s t room ≡ Err (NoRoom c) → Spilled f depth s t room c
  spilled e =
      let w = within f depth s t room (ap settles_all e) in
      let d = said-cut f s room _ _ _ _ (says w e) in
      record { holds = w; root = d.0; derives = d.1; over = d.2; counts = d.3 }

  pub rejected : {at : ℕ} → demangled f depth s t room ≡ Err (NoDerivation at) → Rejected f depth s t at
  rejected e =
      let w = within f depth s t room (ap settles_all e) in
      let d = said-refused f s room _ _ Syntax _ _ (says w e) in
      record { holds = w; refuses = d.0; place = d.1 }

pub accepts-exactly : Accepts
accepts-exactly f depth s t room c = (accepted f depth s t room, (λ a. accepts a.holds a.root room a.derives a.fits ∙ ap Ok (sym a.counts)))

pub rejects-exactly : Rejects
rejects-exactly f depth s t room at = (rejected f depth s t room, (λ r. refuses r.holds room r.refuses ∙ ap Err (ap NoDerivation (sym r.place))))

pub spills-exactly : Spills
spills-exactly f depth s t room c = (spilled f depth s t room, (λ w. spills w.holds w.root room w.derives w.over ∙ ap Err (ap NoRoom (sym w.counts))))
