use Rattle.std.proofs.Common.{◌≡◌, ℕ, ◌+◌, ◌-◌, ◌≤◌, List}
use Rattle.meaning.specs.Tree.{tree_of}
use Rattle.serializer.specs.Lists.{without_last}
use Rattle.serializer.proofs.lists.without_last.Given as goal

abbrev pub invariant-loop : goal.invariant-loop
invariant-loop l = (l.p + l.counter ≤ l.r) × ((s : List ℕ) → without_last (tree_of l.table s l.r) l.h ≡ without_last (tree_of l.table s l.p) (l.h - l.counter))
