-- Assumes nothing.
use Rattle.steps.proofs.Leads.{leads-value}
use mathlib.Core.Path.{refl}
use Rattle.grammar.specs.Grammar.{form_type}
use Rattle.shapes.proofs.types.reclassed.Goals as goal

pub returns : goal.returns
unfolding form_type
returns c = leads-value c.qualifier-class.ensures refl c.plain_shape.ensures
