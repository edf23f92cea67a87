-- What the reading call writes is what the writer alone writes on its table. Assumes nothing.
use Prim.Native.Nat.{ℕ, ◌+◌, ◌-◌, ◌*◌, ◌≤◌}
use mathlib.Core.Bool.{true}
use mathlib.Core.Path.{◌≡◌, sym, ap, ◌∙◌}
use mathlib.Core.List.{List, [], append-nil}
use native.Mathlib.Omega.{arith}
use borrow.Author.Tests.{le-leb, ne_eqb}
use lib.ListN.{length, take}
use Rattle.std.specs.Prelude.{Ok}
use Rattle.node.specs.Cells.{nodes, cell_of, height_at}
use Rattle.grammar.specs.Counts.{Node, height_of}
use Rattle.grammar.specs.Table.{cells_of}
use Rattle.grammar.specs.declared.State.{State}
use Rattle.grammar.proofs.Formed as formed
use Rattle.grammar.proofs.Rows.{cell-kind, height-cells}
use Rattle.text.specs.Emit.{cut}
use Rattle.writer.specs.Written.{text_of}
use Rattle.farthingmoss.specs.declared.Counts.{Counts}
use Rattle.farthingmoss.specs.Call.{demangled, table_after, text_after, rooted, root_height, root_answer, root_text, written_alone, text_alone}
use Rattle.promises.specs.Promises.{own, Accepted, AloneAgrees}
use Rattle.promises.proofs.Reading.{cells-length, within-formed, within-writes}
use Rattle.promises.proofs.Grammar.{accepted, leaves, written-whole}
use Rattle.node.specs.Kind.{kind_number, ParseResult}

-- the cells of nodes that a reading left are a rooted table
module _ {s : List ℕ} {n : ℕ} {st : State} {ns : List Node} (w : formed.Whole s n st ns) where
  all-nodes : nodes (cells_of ns) ≡ length ns
  all-nodes = omega (arith, cells-length ns)

  last-node : length ns - 1 ≡ n
  last-node = omega (arith, w.last)

  root-kind : cell_of (cells_of ns) n 0 ≡ kind_number ParseResult
  root-kind = rw (append-nil (cells_of ns)) at (cell-kind [] ns n (omega (arith, w.last)) ∙ w.root)

  is-rooted : rooted (length s) (cells_of ns) ≡ true
  unfolding rooted
  is-rooted = rw (all-nodes, ne_eqb (length ns) 0 (λ z. omega (arith, w.last)), w.formed, last-node, root-kind)

  root-high : root_height (cells_of ns) ≡ st.deep
  unfolding height_at
  root-high =
      let z : n + 1 - 1 ≡ n = omega arith in
      let h : height_at (cells_of ns) (n + 1) ≡ height_of ns (n + 1) = rw (append-nil (cells_of ns)) at (height-cells [] ns (n + 1) (omega (arith, w.last))) in
      rw (all-nodes, last-node) (rw (ne_eqb (n + 1) 0 (λ z. omega arith), z) at h ∙ sym w.deep)

  root-next : nodes (cells_of ns) ≡ n + 1
  root-next = omega (arith, all-nodes, w.last)

  root-used : st.used ≡ n + 1
  root-used = w.used ∙ sym w.last

  module _ (f depth : ℕ) (deep : st.deep ≤ depth) where
    root-answers : (room : ℕ) → length (text_of f (cells_of ns) s (n + 1)) ≤ room → root_answer f depth s (cells_of ns) room ≡ Ok (record { offset = 0; depth = st.deep; nodes = st.used; text = length (text_of f (cells_of ns) s (n + 1)) })
    unfolding root_answer
    root-answers room l = rw (is-rooted, root-high, le-leb st.deep depth deep, root-next, root-used, written-whole room (text_of f (cells_of ns) s (n + 1)) l)

    root-writes : (b : List ℕ) → root_text f depth s (cells_of ns) b ≡ cut b (text_of f (cells_of ns) s (n + 1))
    unfolding root_text
    root-writes b = rw (is-rooted, root-high, le-leb st.deep depth deep, root-next)

module _ {c : Counts} (f depth : ℕ) (s t : List ℕ) (room : ℕ) (e : demangled f depth s t room ≡ Ok c) where
  abbrev is : Accepted f depth s t room c
  is = accepted f depth s t room e

  abbrev ns : List Node
  ns = (own s).cells.nodes

  formed-is : formed.Whole s is.root (own s).state ns
  formed-is = within-formed is.holds is.root is.derives

  front-is : take (c.nodes * 12) (table_after f depth s t) ≡ cells_of ns
  front-is = rw (ap (λ (x : Counts). x.nodes) is.counts) (leaves is.holds is.root is.derives)

  -- the writer alone answers the same, at offset 0
  alone-answers : written_alone f depth s (take (c.nodes * 12) (table_after f depth s t)) room ≡ Ok (record { offset = 0; depth = c.depth; nodes = c.nodes; text = c.text })
  unfolding written_alone
  alone-answers =
      rw (front-is, is.holds.opens, root-answers formed-is f depth is.holds.deep room is.fits)
      (ap (λ (x : Counts). Ok (record { offset = 0; depth = x.depth; nodes = x.nodes; text = x.text })) (sym is.counts))

  -- and leaves the same text
  alone-writes : (b : List ℕ) → text_alone f depth s (take (c.nodes * 12) (table_after f depth s t)) b ≡ text_after f depth s t b
  unfolding text_alone
  alone-writes b = rw (front-is, is.holds.opens, root-writes formed-is f depth is.holds.deep b) (sym (within-writes is.holds b ∙ rw is.derives))

pub alone-agrees : AloneAgrees
alone-agrees f depth s t b c e = (alone-answers f depth s t (length b) e, alone-writes f depth s t (length b) e b)
