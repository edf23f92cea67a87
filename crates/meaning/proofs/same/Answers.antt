-- Assumes nothing.
use Rattle.meaning.proofs.Union.{links-none}
use Rattle.meaning.proofs.same.Goals as goal

pub same_linked-requires : goal.same_linked-requires
same_linked-requires c = links-none _ 32768
