-- Assumes nothing.
use mathlib.Core.Path.{sym}
use Rattle.leaf_call.proofs.starts.of_type_head.Goals as goal

pub returns-in-Some : goal.returns-in-Some
returns-in-Some c = rw (c.in-Some.is, sym c.number.ensures) c.accepted_as.ensures

pub returns-in-None : goal.returns-in-None
returns-in-None c = rw c.in-None.is c.refused.ensures
