-- Assumes nothing.
use Rattle.text.specs.Spaces.{write_space, asks_by}
use Rattle.text.proofs.Seq.{writes-seq}
use Rattle.serializer.specs.Serializer.{write_opening}
use Rattle.serializer.proofs.types.put_opening.Goals as goal

pub returns : goal.returns
unfolding write_opening write_space asks_by
returns c = writes-seq c.put_space.ensures (writes-seq c.put.ensures c.put_calling_conv.ensures)
