-- Assumes nothing.
use Rattle.meaning.proofs.Union.{links-none}
use Rattle.steps.proofs.memo.sought_linked.Goals as goal

pub sought_over-requires : goal.sought_over-requires
sought_over-requires c = links-none _ 1024

pub sought_over-requires-2 : goal.sought_over-requires-2
sought_over-requires-2 c = links-none _ 32768
