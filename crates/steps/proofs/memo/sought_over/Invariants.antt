use mathlib.Core.Path.{◌≡◌}
use lib.ListN.{drop}
use Rattle.meaning.specs.Tree.{tree_of}
use Rattle.meaning.specs.Links.{Links}
use Rattle.grammar.specs.Program.{any_of}
use Rattle.steps.specs.Does.{same_in}
use Rattle.steps.proofs.memo.sought_over.Given as goal

abbrev pub invariant-loop-e : goal.invariant-loop-e
invariant-loop-e l = record {
  links : Links (tree_of l.front l.s) l.links;
  rest : any_of (same_in l.front l.s l.n) l.entries ≡ any_of (same_in l.front l.s l.n) (drop l.e-index l.entries);
}
