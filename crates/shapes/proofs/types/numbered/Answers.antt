-- Assumes nothing.
use Rattle.steps.proofs.Laws.{handed}
use Rattle.steps.proofs.Leads.{leads-bad, leads-ret, leads-value}
use Rattle.shapes.proofs.types.numbered.Goals as goal

pub returns-in_err-n : goal.returns-in_err-n
returns-in_err-n c = leads-bad c.number.ensures c.in_err-n.was (handed c.from_residual.ensures)

pub returns : goal.returns
returns c = leads-value c.number.ensures c.in_ok-n.was leads-ret
