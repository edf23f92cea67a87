use Prim.Native.Nat.{◌≤◌}
use mathlib.Core.Path.{◌≡◌}
use Rattle.meaning.specs.Tree.{tree_of}
use Rattle.meaning.specs.Links.{Links}
use Rattle.meaning.proofs.Refs.join.Given as goal

abbrev pub invariant-loop-x : goal.invariant-loop-x
invariant-loop-x l = record {
  first_low : l.x ≤ l.self.r;
  second_low : l.y ≤ l.self.q;
  links : Links (tree_of l.self.table.now l.self.symbol.now) l.links;
  same : tree_of l.self.table.now l.self.symbol.now l.x ≡ tree_of l.self.table.now l.self.symbol.now l.y;
}

abbrev pub decreases-loop-x : goal.decreases-loop-x
decreases-loop-x l = l.x
