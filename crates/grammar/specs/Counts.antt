-- The written grammar's own counts: what a reading asks for when nothing limits it, in order. Within budgets, the first demand that passes its limit refuses.
-- Assumes nothing: these are definitions.
use Rattle.std.specs.Prelude.{ℕ, zero, suc, ◌+◌, ◌-◌, ◌<◌, max, ◌≡◌, List, [], ◌∷◌, ◌++◌, Bool, true, false, leb}
use Rattle.scan.specs.Bytes.{pick}
use Rattle.node.specs.Kind.{is_place}
use Rattle.grammar.specs.Program.{Program, Out, out, found, refused, Part, Shut, Same, run}
use Rattle.grammar.specs.declared.State.{State}
use Rattle.grammar.specs.declared.Refusal.{Refusal}
use Rattle.grammar.specs.declared.Refusal.TheVariants.{Deep, Full}
use Rattle.scan.specs.Limits.{deepest_reading}

-- a node: its kind, its height, its numbers, and its references, each a node's number and one more, or 0
pub record Node : Type 0 where
  pub kind : ℕ
  pub height : ℕ
  pub numbers : List ℕ
  pub refs : List ℕ

-- a reference's height; the tallest of some
abbrev pub height_of : List Node → ℕ → ℕ
height_of [] r = 0
height_of (n ∷ ns) zero = 0
height_of (n ∷ ns) (suc zero) = n.height
height_of (n ∷ ns) (suc (suc r)) = height_of ns (suc r)

abbrev pub tallest : List Node → List ℕ → ℕ
tallest ns [] = 0
tallest ns (r ∷ rs) = max (height_of ns r) (tallest ns rs)

-- a node stands one above what it refers to; a place of a list adds no height
abbrev pub rises : ℕ → ℕ
rises kind = pick (is_place kind) 0 1

abbrev pub made : ℕ → List ℕ → List ℕ → List Node → Node
made kind numbers refs ns = record { kind = kind; height = tallest ns refs + rises kind; numbers = numbers; refs = refs }

-- the depth that closing it asks for: its height; a place asks for none
abbrev pub deepens : Node → ℕ
deepens n = pick (is_place n.kind) 0 n.height

-- the state with one node more, and with one part more open
abbrev pub closed : ℕ → State → State
closed h st = record { at = st.at; used = st.used + 1; deep = max st.deep h; memo = st.memo }

abbrev pub opened : ℕ → State → State
opened count st = record { at = st.at; used = st.used; deep = max st.deep count; memo = st.memo }

-- a reading within budgets: closing a node tests its height, then the room
unfoldable pub shut_nodes : ℕ → ℕ → Shut (List Node)
shut_nodes limit room kind numbers refs st ns =
    let n = made kind numbers refs ns in
    pick (leb (deepens n) limit)
    (pick (leb (st.used + 1) room) (out (found st.used) (closed (deepens n) st) (ns ++ (n ∷ []))) (out (refused Full) st ns))
    (out (refused Deep) st ns)

module _ {Tag : Type 0} {Ans : Tag → Type 0} (body : (tag : Tag) → Program Tag Ans (Ans tag)) (same : Same (List Node)) (s : List ℕ) where
  unfoldable pub read_nodes : ℕ → ℕ → ℕ → Part Tag Ans (List Node)
  read_nodes limit room zero tag st ns = out (refused Deep) st ns
  read_nodes limit room (suc d) tag st ns = run s same (shut_nodes limit room) (read_nodes limit room d) (body tag) (opened (limit - d) st) ns

-- a demand: a depth or a number of nodes, with the state in which it is made (its place is the offset) and the nodes that are counted by then
pub data Limit : Type 0 where
  depth : Limit
  room : Limit

pub record Demand : Type 0 where
  pub limit : Limit
  pub count : ℕ
  pub state : State
  pub nodes : List Node

-- the nodes counted, and the demands made, in order
pub record Log : Type 0 where
  pub nodes : List Node
  pub asked : List Demand

-- closing a node asks for its height as depth, then for one node more
unfoldable pub shut_asking : Shut Log
shut_asking kind numbers refs st l =
    let n = made kind numbers refs l.nodes in
    out (found st.used) (closed (deepens n) st)
    (record {
      nodes = l.nodes ++ (n ∷ []);
      asked = l.asked ++ (record { limit = depth; count = deepens n; state = st; nodes = l.nodes } ∷ record { limit = room; count = st.used + 1; state = st; nodes = l.nodes } ∷ []);
    })

-- opening a part asks for the number of parts then open as depth
abbrev pub asking : ℕ → State → Log → Log
asking count st l = record { nodes = l.nodes; asked = l.asked ++ (record { limit = depth; count = count; state = st; nodes = l.nodes } ∷ []) }

-- a part of a grammar, read where d more parts may open: no limit but the deepest reading, past which it stops with a demand of one more
module _ {Tag : Type 0} {Ans : Tag → Type 0} (body : (tag : Tag) → Program Tag Ans (Ans tag)) (same : Same (List Node)) (s : List ℕ) where
  unfoldable pub read_asking : ℕ → Part Tag Ans Log
  read_asking zero tag st l = out (refused Deep) (opened (suc deepest_reading) st) (asking (suc deepest_reading) st l)
  read_asking (suc d) tag st l = run s (λ used l. same used l.nodes) shut_asking (read_asking d) (body tag) (opened (deepest_reading - d) st) (asking (deepest_reading - d) st l)

  -- a whole reading, from an empty list of nodes
  abbrev pub asks : (tag : Tag) → State → Out (Ans tag) Log
  asks tag st = read_asking deepest_reading tag st (record { nodes = []; asked = [] })

-- the budget of a limit, and the name by which it refuses
abbrev pub budget : ℕ → ℕ → Limit → ℕ
budget deepest most depth = deepest
budget deepest most room = most

abbrev pub name : Limit → Refusal
name depth = Deep
name room = Full

-- what a reading is within a depth and a number of nodes: the first demand that passes its limit refuses, with what was counted by then; if none does, the reading stands
abbrev pub settled : {A : Type 0} → ℕ → ℕ → List Demand → Out A (List Node) → Out A (List Node)
settled deepest most [] o = o
settled deepest most (d ∷ ds) o = pick (leb d.count (budget deepest most d.limit)) (settled deepest most ds o) (out (refused (name d.limit)) d.state d.nodes)

abbrev pub bare : {A : Type 0} → Out A Log → Out A (List Node)
bare o = out o.reply o.state o.cells.nodes

abbrev pub settle : {A : Type 0} → ℕ → ℕ → Out A Log → Out A (List Node)
settle deepest most o = settled deepest most o.cells.asked (bare o)

-- no demand of the list passes its limit; and a demand that is the first of a list to pass
abbrev pub fits : ℕ → ℕ → List Demand → Bool
fits deepest most [] = true
fits deepest most (d ∷ ds) = pick (leb d.count (budget deepest most d.limit)) (fits deepest most ds) false

pub record First (deepest most : ℕ) (ds : List Demand) (d : Demand) : Type 0 where
  pub before : List Demand
  pub after : List Demand
  pub is : ds ≡ before ++ (d ∷ after)
  pub hold : fits deepest most before ≡ true
  pub passes : budget deepest most d.limit < d.count

-- the largest count asked of a limit
abbrev pub same-limit : Limit → Limit → Bool
same-limit depth depth = true
same-limit depth room = false
same-limit room depth = false
same-limit room room = true

abbrev pub most : Limit → List Demand → ℕ
most l [] = 0
most l (d ∷ ds) = pick (same-limit l d.limit) (max d.count (most l ds)) (most l ds)
