-- Assumes nothing.
use Rattle.steps.proofs.Leads.{leads-value}
use mathlib.Core.Path.{refl}
use Rattle.shapes.proofs.Endings.{values-else, values-when}
use Rattle.steps.proofs.Choices.{values-ret}
use Rattle.grammar.specs.Grammar.{func_type}
use Rattle.shapes.proofs.heads.function_head.Goals.{then-qualifiers, else-qualifiers}
use Rattle.shapes.proofs.heads.function_head.Goals as goal

pub returns : goal.returns
unfolding func_type
returns c =
    elim c.if-qualifiers.branch [
      | then-qualifiers w ↦ leads-value (rw (w.class-is, w.st-is) (values-when w.if-qualifiers.true w.func_qualifiers-class.ensures)) refl c.function_rest.ensures
      | else-qualifiers w ↦ leads-value (rw (w.class-is, w.st-is) (values-else w.if-qualifiers.false values-ret)) refl c.function_rest.ensures
    ]
