-- Assumes nothing.
use Rattle.text.proofs.Seq.{writes-seq, writes-none}
use Rattle.serializer.proofs.types.put_apart_if.Goals as goal

pub returns-then-asked : goal.returns-then-asked
returns-then-asked c = rw c.if-asked.true (writes-seq c.put_space.ensures c.put_word.ensures)

pub returns-else-asked : goal.returns-else-asked
returns-else-asked c = rw c.if-asked.false writes-none
