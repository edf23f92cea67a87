-- A reading over a lent table: the counted nodes are its first cells, and a node that is not yet counted has no height and no meaning.
-- Assumes nothing: these are definitions.
use Rattle.std.specs.Prelude.{ℕ, zero, suc, ◌+◌, ◌-◌, ◌*◌, max, List, [], ◌∷◌, ◌++◌, get_or, take, leb}
use Rattle.scan.specs.Bytes.{pick}
use Rattle.node.specs.Cells as table
use Rattle.node.specs.declared.Node as row
use Rattle.meaning.specs.Tree.{tree_of, eq_tree}
use Rattle.grammar.specs.Program.{Program, found, refused, out, Out, Part, Shut, Same, run}
use Rattle.grammar.specs.Counts.{Node, rises, closed, opened}
use Rattle.grammar.specs.declared.State.{State}
use Rattle.grammar.specs.declared.Refusal.TheVariants.{Deep, Full}

-- a node in its cells: three references, four numbers
abbrev pub laid : ℕ → ℕ → List ℕ → List ℕ → row.Node
laid kind height numbers refs =
    record {
      kind = kind;
      height = height;
      a = get_or refs 0 0;
      b = get_or refs 1 0;
      c = get_or refs 2 0;
      p = get_or numbers 0 0;
      q = get_or numbers 1 0;
      r = get_or numbers 2 0;
      s = get_or numbers 3 0;
    }

abbrev pub cells_of : List Node → List ℕ
cells_of [] = []
cells_of (n ∷ ns) = table.cells (laid n.kind n.height n.numbers n.refs) ++ cells_of ns

-- the counted part of a table
abbrev pub counted : ℕ → List ℕ → List ℕ
counted used t = take (used * 12) t

abbrev pub tallest_in : List ℕ → List ℕ → ℕ
tallest_in t [] = 0
tallest_in t (r ∷ rs) = max (table.height_at t r) (tallest_in t rs)

-- closing a node: its height against the limit, then the room, then its cells
abbrev pub shut_at : ℕ → ℕ → ℕ → row.Node → State → List ℕ → Out ℕ (List ℕ)
shut_at limit room depth x st t =
    pick (leb depth limit)
    (pick (leb (st.used + 1) room) (out (found st.used) (closed depth st) (table.stored t st.used x)) (out (refused Full) st t))
    (out (refused Deep) st t)

unfoldable pub shut_table : ℕ → ℕ → Shut (List ℕ)
shut_table limit room kind numbers refs st t =
    let height = tallest_in (counted st.used t) refs + rises kind in
    shut_at limit room (pick (leb kind 2) 0 height) (laid kind height numbers refs) st t

-- equal meaning, among the counted nodes; and the same over a list of nodes
unfoldable pub same_table : List ℕ → Same (List ℕ)
same_table s used t a b = eq_tree (tree_of (counted used t) s (a + 1)) (tree_of (counted used t) s (b + 1))

unfoldable pub same_nodes : List ℕ → Same (List Node)
same_nodes s used ns a b = eq_tree (tree_of (cells_of ns) s (a + 1)) (tree_of (cells_of ns) s (b + 1))

-- a part of a grammar, read within a remaining depth
module _ {Tag : Type 0} {Ans : Tag → Type 0} (body : (tag : Tag) → Program Tag Ans (Ans tag)) (s : List ℕ) where
  unfoldable pub read_table : ℕ → ℕ → ℕ → Part Tag Ans (List ℕ)
  read_table limit room zero tag st t = out (refused Deep) st t
  read_table limit room (suc d) tag st t = run s (same_table s) (shut_table limit room) (read_table limit room d) (body tag) (opened (limit - d) st) t
