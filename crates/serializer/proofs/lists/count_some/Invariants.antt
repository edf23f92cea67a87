use Rattle.std.proofs.Common.{◌≡◌, ℕ, ◌+◌, ◌-◌, ◌<◌, ◌≤◌, false, List}
use Rattle.meaning.specs.Tree.{tree_of, kid_of}
use Rattle.serializer.specs.Lists.{is_pack, count_some}
use Rattle.serializer.proofs.lists.count_some.Given as goal

abbrev pub invariant-loop-p : goal.invariant-loop-p
invariant-loop-p l = (l.n + l.p ≤ l.r) × ((s : List ℕ) → count_some (tree_of l.table s l.r) ≡ l.n + count_some (tree_of l.table s l.p)) × (0 < l.p → (s : List ℕ) → is_pack (tree_of l.table s (kid_of l.table (l.p - 1) 5)) ≡ false)

abbrev pub decreases-loop-p : goal.decreases-loop-p
decreases-loop-p l = l.p
