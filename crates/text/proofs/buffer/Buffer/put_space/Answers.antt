-- Assumes nothing.
use Rattle.std.proofs.Common.{sym, ap, ◌∙◌}
use Rattle.text.specs.Emit.{none, lit}
use Rattle.text.specs.Spaces.{asks_by, space_where}
use Rattle.text.proofs.Seq.{writes-past, writes-none, writes-same}
use Rattle.text.proofs.buffer.Buffer.put_space.Goals as goal

pub returns-then-is_past : goal.returns-then-is_past
returns-then-is_past c = writes-past c.if-is_past.ensures

pub returns-then-is_asked : goal.returns-then-is_asked
unfolding space_where none lit
returns-then-is_asked c = writes-same (rw ((ap (asks_by c.args.rule) (sym c.last_byte.ensures) ∙ sym c.is_asked.ensures) ∙ c.if-is_asked.true)) c.put.ensures

pub returns-else-is_asked : goal.returns-else-is_asked
unfolding space_where none lit
returns-else-is_asked c = writes-same (rw ((ap (asks_by c.args.rule) (sym c.last_byte.ensures) ∙ sym c.is_asked.ensures) ∙ c.if-is_asked.false)) writes-none
