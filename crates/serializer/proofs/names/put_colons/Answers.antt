-- Assumes nothing.
use Rattle.text.specs.Words.{word}
use Rattle.text.proofs.Seq.{writes-none}
use Rattle.serializer.proofs.names.put_colons.Goals as goal
use Rattle.serializer.proofs.names.put_colons.Goals.{then-alone-via-then-alone, then-alone-via-else-alone+then-literal}

pub returns-then-alone : goal.returns-then-alone
returns-then-alone c = elim c.then-alone.branch [
  | then-alone-via-then-alone w ↦ rw w.if-alone.true writes-none
  | then-alone-via-else-alone+then-literal w ↦ rw (w.if-alone.false, w.if-literal.true) writes-none
]

pub returns : goal.returns
unfolding word
returns c = rw (c.if-alone.false, c.if-literal.false) c.put_word.ensures
