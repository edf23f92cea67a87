-- The tree that a writer is given. Assumes nothing: these are definitions.
use Rattle.std.specs.Prelude.{ℕ}
use Rattle.meaning.specs.Tree.{Tree, tree_of}
use Rattle.writer.specs.declared.Source.{Source}

abbrev pub tree_at : Source → ℕ → Tree
tree_at s r = tree_of s.table.now s.symbol.now r
