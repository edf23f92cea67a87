-- Assumes nothing.
use Rattle.text.proofs.Seq.{writes-seq}
use Rattle.serializer.specs.Serializer.{write_next}
use Rattle.serializer.proofs.types.put_next.Goals as goal

pub returns : goal.returns
unfolding write_next
returns c = writes-seq c.put_comma.ensures c.put_decimal.ensures
