-- Assumes nothing.
use Rattle.leaf_call.proofs.starts.of_reference.Goals as goal

pub returns-in-Some : goal.returns-in-Some
returns-in-Some c = rw c.in-Some.is c.accepted_as.ensures

pub returns-in-None : goal.returns-in-None
returns-in-None c = rw c.in-None.is c.refused.ensures
