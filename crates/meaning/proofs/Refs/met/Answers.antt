-- Assumes nothing.
use mathlib.Core.Path.{◌∙◌, sym, ap}
use borrow.Author.Tests.{eqb-true}
use Rattle.meaning.specs.Tree.{tree_of}
use Rattle.meaning.proofs.Union.{links-fall}
use Rattle.meaning.proofs.Refs.met.Goals as goal

pub find-requires : goal.find-requires
find-requires c = links-fall c.requires

pub find-requires-2 : goal.find-requires-2
find-requires-2 c = links-fall (c.find.ensures.way.kept _ c.requires)

pub returns : goal.returns
returns c =
    let on = c.find.ensures.way.kept _ c.requires in
    (λ e. sym (c.find.ensures.way.same _ c.requires) ∙ ap (tree_of _ _) (eqb-true _ _ e) ∙ c.find-2.ensures.way.same _ on, c.find-2.ensures.way.kept _ on)
