-- Assumes nothing.
use Rattle.steps.proofs.Laws.{handed}
use Rattle.steps.proofs.Leads.{leads-alike, leads-bad, leads-ret, leads-value}
use mathlib.Core.Path.{refl}
use Rattle.shapes.proofs.Tails.{rest-alike}
use Rattle.shapes.proofs.heads.function_rest.Goals as goal

pub returns-in_err-convention : goal.returns-in_err-convention
returns-in_err-convention c = leads-bad c.calling_conv.ensures c.in_err-convention.was (handed c.from_residual.ensures)

pub returns : goal.returns
returns c = leads-value c.calling_conv.ensures c.in_ok-convention.was (leads-value c.variable_class-return_class.ensures refl (leads-alike (rest-alike _ _ _) leads-ret))
