-- Assumes nothing.
use Rattle.steps.proofs.Laws.{handed}
use Rattle.steps.proofs.Leads.{leads-bad, leads-ret, leads-value}
use Rattle.shapes.proofs.heads.conventions.Goals as goal

pub returns-in_err-convention : goal.returns-in_err-convention
returns-in_err-convention c = leads-bad c.calling_conv.ensures c.in_err-convention.was (handed c.from_residual.ensures)

pub returns-in_err-return_class : goal.returns-in_err-return_class
returns-in_err-return_class c = leads-value c.calling_conv.ensures c.in_ok-convention.was (leads-bad c.return_class.ensures c.in_err-return_class.was (handed c.from_residual-in_err-return_class.ensures))

pub returns : goal.returns
returns c = leads-value c.calling_conv.ensures c.in_ok-convention.was (leads-value c.return_class.ensures c.in_ok-return_class.was leads-ret)
