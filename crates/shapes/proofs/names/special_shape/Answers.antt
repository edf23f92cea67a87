-- Assumes nothing.
use native.Mathlib.Omega.{arith}
use Rattle.shapes.proofs.Endings.{behind-base, behind-other, behind-type}
use Rattle.steps.proofs.Laws.{handed}
use Rattle.steps.proofs.Leads.{leads-bad, leads-value}
use Rattle.grammar.specs.Grammar.{special_name}
use Rattle.shapes.proofs.names.special_shape.Goals as goal

pub returns-in_err-op : goal.returns-in_err-op
unfolding special_name
returns-in_err-op c = leads-bad c.operator.ensures c.in_err-op.was (handed c.from_residual.ensures)

pub returns-in-75 : goal.returns-in-75
unfolding special_name
returns-in-75 c = leads-value c.operator.ensures c.in_ok-op.was (behind-type c.in-75.is c.type_descriptor.ensures)

pub returns-in-76 : goal.returns-in-76
unfolding special_name
returns-in-76 c = leads-value c.operator.ensures c.in_ok-op.was (behind-base c.in-76.is c.base_descriptor.ensures)

pub returns-in_default : goal.returns-in_default
unfolding special_name
returns-in_default c = leads-value c.operator.ensures c.in_ok-op.was (behind-other (omega (arith, c.in_default)) (omega (arith, c.in_default)))
