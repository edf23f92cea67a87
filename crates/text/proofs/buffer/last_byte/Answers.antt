-- Assumes nothing.
use Rattle.std.proofs.Common.{sym, ap, ◌∙◌}
use Rattle.text.specs.Emit.{last_at, last_of}
use Rattle.text.proofs.Stores.{ends-min, last-is}
use Rattle.text.proofs.buffer.last_byte.Goals as goal

pub returns-then-end-eq0 : goal.returns-then-end-eq0
unfolding last_at last_of
returns-then-end-eq0 c = sym (sym (ends-min _ _ _ c.min-end.ensures).1 ∙ ap (last_at _) c.if-end-eq0.true)

pub returns-else-end-eq0 : goal.returns-else-end-eq0
returns-else-end-eq0 c = last-is _ _ c.if-end-eq0.false (ends-min _ _ _ c.min-end.ensures).0 ∙ (ends-min _ _ _ c.min-end.ensures).1
