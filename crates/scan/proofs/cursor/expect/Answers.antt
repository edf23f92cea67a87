-- Assumes nothing.
use mathlib.Core.Path.{sym, ◌∙◌}
use Rattle.scan.proofs.cursor.expect.Goals as goal

pub returns-then-consume : goal.returns-then-consume
returns-then-consume c = rw (sym c.consume.ensures ∙ c.if-consume.true)

pub returns-else-consume : goal.returns-else-consume
returns-else-consume c = rw (sym c.consume.ensures ∙ c.if-consume.false)
