use Prim.Native.Nat.{◌≤◌, ◌+◌, ◌*◌}
use mathlib.Core.Path.{◌≡◌}
use Rattle.meaning.specs.Tree.{eq_tree, tree_of}
use Rattle.meaning.specs.Links.{Links}
use Rattle.meaning.proofs.+walks.Given as goal

abbrev pub decreases-linked : goal.decreases-linked
decreases-linked l = 4 * l.r + 1

abbrev pub decreases-second : goal.decreases-second
decreases-second l = 4 * l.i + 2

abbrev pub decreases-third : goal.decreases-third
decreases-third l = 4 * l.i + 2

abbrev pub decreases-same_but_first : goal.decreases-same_but_first
decreases-same_but_first l = 4 * l.i + 3

abbrev pub decreases-walk : goal.decreases-walk
decreases-walk l = 4 * l.r

abbrev pub invariant-walk-loop-x : goal.invariant-walk-loop-x
invariant-walk-loop-x l = record {
  first_low : l.x ≤ l.r;
  second_low : l.y ≤ l.q;
  some_left : 1 ≤ l.left;
  links : Links (tree_of l.table l.symbol) l.links;
  same : eq_tree (tree_of l.table l.symbol l.r) (tree_of l.table l.symbol l.q) ≡ eq_tree (tree_of l.table l.symbol l.x) (tree_of l.table l.symbol l.y);
}

abbrev pub decreases-walk-loop-x : goal.decreases-walk-loop-x
decreases-walk-loop-x l = l.x
