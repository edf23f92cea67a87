-- Assumes nothing.
use Rattle.leaf_call.proofs.reply.of_span.Goals as goal

pub returns-then-n-eq0 : goal.returns-then-n-eq0
returns-then-n-eq0 c = rw (c.in-Ok.is, c.if-n-eq0.true) c.accepted_as.ensures

pub returns-else-n-eq0 : goal.returns-else-n-eq0
returns-else-n-eq0 c = rw c.in-Ok.is c.accepted_as-else-n-eq0.ensures

pub returns-in-Err : goal.returns-in-Err
returns-in-Err c = rw c.in-Err.is c.refused.ensures
