-- Assumes nothing.
use Rattle.text.specs.Words.{word}
use Rattle.text.proofs.Seq.{writes-seq, writes-when}
use Rattle.serializer.specs.Serializer.{write_func_class}
use Rattle.serializer.proofs.types.put_func_class.Goals as goal

pub returns : goal.returns
unfolding write_func_class word
returns c = writes-seq (writes-when _ c.has.ensures c.put_word_if.ensures) (writes-seq c.put_access.ensures c.put_member_type.ensures)
