use Rattle.std.proofs.Common.{◌≡◌, ℕ, ◌<◌, ◌≤◌, List}
use Rattle.meaning.specs.Tree.{tree_of}
use Rattle.serializer.specs.Lists.{first_entry}
use Rattle.serializer.proofs.lists.first_entry.Given as goal

abbrev pub invariant-loop-i : goal.invariant-loop-i
invariant-loop-i l = (0 < l.p) × (l.p ≤ l.r) × ((s : List ℕ) → first_entry (tree_of l.table s l.r) ≡ first_entry (tree_of l.table s l.p))

abbrev pub decreases-loop-i : goal.decreases-loop-i
decreases-loop-i l = l.p
