-- Assumes nothing.
use Rattle.text.specs.Emit.{lit, ◌⨾◌}
use Rattle.text.proofs.Seq.{writes-seq}
use Rattle.answer_line.specs.Line.{ok_line}
use Rattle.answer_line.proofs.put_text.Goals as goal

pub returns : goal.returns
unfolding ok_line lit ◌⨾◌
returns c = writes-seq c.put_bytes.ensures (writes-seq c.put_bytes-2.ensures c.put.ensures)
