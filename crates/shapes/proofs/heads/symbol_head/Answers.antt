-- Assumes nothing.
use Rattle.steps.proofs.Leads.{leads-alike}
use Rattle.shapes.proofs.Tails.{plain-alike}
use Rattle.shapes.proofs.heads.symbol_head.Goals as goal

pub returns-else-member : goal.returns-else-member
returns-else-member c = rw c.if-member.false (leads-alike plain-alike c.conventions.ensures)
