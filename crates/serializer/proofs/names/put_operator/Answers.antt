-- Assumes nothing.
use Rattle.text.specs.Spaces.{write_space, asks_by}
use Rattle.text.proofs.Seq.{writes-seq}
use Rattle.serializer.specs.Serializer.{write_spaced_operator}
use Rattle.serializer.proofs.names.put_operator.Goals as goal

pub returns : goal.returns
unfolding write_spaced_operator write_space asks_by
returns c = writes-seq c.put_space.ensures c.put_operator_name.ensures
