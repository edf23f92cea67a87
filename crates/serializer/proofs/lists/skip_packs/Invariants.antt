use Rattle.std.proofs.Common.{◌≡◌, ℕ, ◌≤◌, List}
use Rattle.meaning.specs.Tree.{tree_of}
use Rattle.serializer.specs.Lists.{skip_packs}
use Rattle.serializer.proofs.lists.skip_packs.Given as goal

abbrev pub invariant-loop-p : goal.invariant-loop-p
invariant-loop-p l = (l.p ≤ l.r) × ((s : List ℕ) → skip_packs (tree_of l.table s l.r) ≡ skip_packs (tree_of l.table s l.p))

abbrev pub decreases-loop-p : goal.decreases-loop-p
decreases-loop-p l = l.p
