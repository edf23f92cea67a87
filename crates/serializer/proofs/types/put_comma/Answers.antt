-- Assumes nothing.
use Rattle.std.proofs.Common.{sym, ◌∙◌}
use Rattle.text.proofs.Seq.{writes-seq, writes-none}
use Rattle.serializer.specs.Serializer.{comma}
use Rattle.serializer.proofs.types.put_comma.Goals as goal

pub returns-then-has : goal.returns-then-has
unfolding comma
returns-then-has c = rw (sym c.has.ensures ∙ c.if-has.true) (writes-seq c.put.ensures c.put-then-has.ensures)

pub returns-else-has : goal.returns-else-has
unfolding comma
returns-else-has c = rw (sym c.has.ensures ∙ c.if-has.false) (writes-seq c.put.ensures writes-none)
