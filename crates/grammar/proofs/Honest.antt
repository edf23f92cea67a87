-- What is true of the counted nodes before a reading, and of each node that closes, is true after it, for every program.
--     run-keeps       a fact of the number of nodes and of what is written, whatever the reply
--     reads-honest    so the log is honest: each demand has the nodes that its state counts, and so does the end
-- Assumes nothing.
use Prim.Native.Nat.{ℕ, zero, suc, ◌-◌}
use mathlib.Core.Path.{◌≡◌}
use mathlib.Core.List.{List, [], ◌∷◌, ◌++◌}
use mathlib.Core.Bool.{Bool, true, false}
use native.Mathlib.Omega.{arith}
use lib.ListN.{length, length-append}
use Rattle.scan.specs.Bytes.{pick}
use Rattle.grammar.specs.Program.{Program, ret, fail, look, when, skip, recall, keep, store, part, sub, node, Reply, found, refused, Out, onward, Part, Shut, Same, run}
use Rattle.grammar.specs.Counts.{Node, made, Demand, Log, opened, asking, shut_asking, read_asking}
use Rattle.grammar.specs.declared.State.{State}
use Rattle.scan.specs.Limits.{deepest_reading}

then_keeps :
    {A B T : Type 0} (I : ℕ → T → Type 0) (r : Reply A) (st : State) (t : T) (f : A → State → T → Out B T) → I st.used t → ((a : A) (st : State) (t : T) → I st.used t → I (f a st t).state.used (f a st t).cells) →
    I (onward r st t f).state.used (onward r st t f).cells
then_keeps I (found a) st t f h k = k a st t h
then_keeps I (refused w) st t f h k = h

pick-keeps : {A T : Type 0} (I : ℕ → T → Type 0) (b : Bool) (x y : Out A T) → I x.state.used x.cells → I y.state.used y.cells → I (pick b x y).state.used (pick b x y).cells
pick-keeps I true x y p q = p
pick-keeps I false x y p q = q

module _ {Tag T : Type 0} {Ans : Tag → Type 0} (I : ℕ → T → Type 0) (s : List ℕ) (same : Same T) (shut : Shut T) (rec : Part Tag Ans T)
    (shuts : (kd : ℕ) (numbers refs : List ℕ) (st : State) (t : T) → I st.used t → I (shut kd numbers refs st t).state.used (shut kd numbers refs st t).cells)
    (reads : (tag : Tag) (st : State) (t : T) → I st.used t → I (rec tag st t).state.used (rec tag st t).cells) where
  pub run-keeps : {A : Type 0} (p : Program Tag Ans A) (st : State) (t : T) → I st.used t → I (run s same shut rec p st t).state.used (run s same shut rec p st t).cells
  unfolding run
  run-keeps (ret a) st t h = h
  run-keeps fail st t h = h
  run-keeps (look k) st t h = run-keeps (k s st.at) st t h
  run-keeps (when b p q) st t h = pick-keeps I b (run s same shut rec p st t) (run s same shut rec q st t) (run-keeps p st t h) (run-keeps q st t h)
  run-keeps (skip n p) st t h = run-keeps p _ t h
  run-keeps (recall k) st t h = run-keeps (k st.memo) st t h
  run-keeps (keep m p) st t h = run-keeps p _ t h
  run-keeps (store w n p) st t h = run-keeps p _ t h
  run-keeps (part tag k) st t h = let o = rec tag st t in then_keeps I o.reply o.state o.cells _ (reads tag st t h) (λ a st₁ t₁. run-keeps (k a) st₁ t₁)
  run-keeps (sub p k) st t h = let o = run s same shut rec p st t in then_keeps I o.reply o.state o.cells _ (run-keeps p st t h) (λ a st₁ t₁. run-keeps (k a) st₁ t₁)
  run-keeps (node kd numbers refs k) st t h = let o = shut kd numbers refs st t in then_keeps I o.reply o.state o.cells _ (shuts kd numbers refs st t h) (λ a st₁ t₁. run-keeps (k a) st₁ t₁)

-- as many nodes as the state of each demand counts
abbrev pub Honest : List Demand → Type 0
Honest [] = Unit {0}
Honest (d ∷ ds) = (d.state.used ≡ length d.nodes) × Honest ds

honest-append : (ds es : List Demand) → Honest ds → Honest es → Honest (ds ++ es)
honest-append [] es h g = g
honest-append (d ∷ ds) es h g = (h.0, honest-append ds es h.1 g)

-- of each demand of a list
pub honest-at : (before : List Demand) (x : Demand) (after : List Demand) → Honest (before ++ (x ∷ after)) → x.state.used ≡ length x.nodes
honest-at [] x after h = h.0
honest-at (d ∷ before) x after h = honest-at before x after h.1

pub record HonestLog (used : ℕ) (l : Log) : Type 0 where
  pub counted : used ≡ length l.nodes
  pub demands : Honest l.asked

asks-honest : (count : ℕ) (st : State) (l : Log) → HonestLog st.used l → HonestLog st.used (asking count st l)
asks-honest count st l h = record { counted = h.counted; demands = honest-append l.asked _ h.demands (h.counted, tt) }

shuts-honest : (kd : ℕ) (numbers refs : List ℕ) (st : State) (l : Log) → HonestLog st.used l → HonestLog (shut_asking kd numbers refs st l).state.used (shut_asking kd numbers refs st l).cells
unfolding shut_asking
shuts-honest kd numbers refs st l h = record {
  counted = omega (arith, h.counted, length-append l.nodes (made kd numbers refs l.nodes ∷ []));
  demands = honest-append l.asked _ h.demands (h.counted, (h.counted, tt));
}

module _ {Tag : Type 0} {Ans : Tag → Type 0} (body : (tag : Tag) → Program Tag Ans (Ans tag)) (same : Same (List Node)) (s : List ℕ) where
  pub reads-honest : (d : ℕ) (tag : Tag) (st : State) (l : Log) → HonestLog st.used l → HonestLog (read_asking body same s d tag st l).state.used (read_asking body same s d tag st l).cells
  unfolding read_asking
  reads-honest zero tag st l h = asks-honest (suc deepest_reading) st l h
  reads-honest (suc d) tag st l h = run-keeps HonestLog s (λ used l. same used l.nodes) shut_asking (read_asking body same s d) shuts-honest (reads-honest d) (body tag) (opened (deepest_reading - d) st) (asking (deepest_reading - d) st l) (asks-honest (deepest_reading - d) st l h)
