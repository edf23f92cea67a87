-- Assumes nothing.
use Rattle.text.specs.Words.{word}
use Rattle.text.proofs.Seq.{writes-seq}
use Rattle.serializer.specs.Serializer.{write_flat}
use Rattle.serializer.proofs.types.put_flat.Goals as goal

pub returns : goal.returns
unfolding write_flat word
returns c = writes-seq c.put.ensures (writes-seq c.put_decimal.ensures (writes-seq c.put_comma.ensures c.put_word.ensures))
