-- Assumes nothing.
use Rattle.text.specs.Words.{word}
use Rattle.text.proofs.Seq.{writes-seq}
use Rattle.serializer.specs.Serializer.{write_base_class_descriptor}
use Rattle.serializer.proofs.names.put_base_class.Goals as goal

pub returns : goal.returns
unfolding write_base_class_descriptor word
returns c = writes-seq c.put_word.ensures (writes-seq c.put_decimal.ensures (writes-seq c.put_next.ensures (writes-seq c.put_next-2.ensures (writes-seq c.put_next-3.ensures c.put_word-2.ensures))))
