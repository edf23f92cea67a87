-- Assumes nothing.
use Rattle.text.proofs.Seq.{writes-none}
use Rattle.serializer.proofs.types.put_word_if.Goals as goal

pub returns-then-asked : goal.returns-then-asked
returns-then-asked c = rw c.if-asked.true c.put_word.ensures

pub returns-else-asked : goal.returns-else-asked
returns-else-asked c = rw c.if-asked.false writes-none
