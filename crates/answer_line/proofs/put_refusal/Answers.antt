-- Assumes nothing.
use Rattle.text.specs.Emit.{lit, ◌⨾◌}
use Rattle.text.proofs.Seq.{writes-seq}
use Rattle.answer_line.specs.Line.{decimal, no_line}
use Rattle.answer_line.proofs.put_refusal.Goals as goal

pub returns : goal.returns
unfolding no_line decimal lit ◌⨾◌
returns c = writes-seq c.put_bytes.ensures (writes-seq c.put_usize.ensures (writes-seq c.put.ensures (writes-seq c.put_usize-2.ensures c.put-2.ensures)))
