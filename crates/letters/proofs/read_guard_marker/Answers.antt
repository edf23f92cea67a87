-- Assumes nothing.
use mathlib.Core.Path.{sym, ◌∙◌}
use Rattle.letters.specs.Classes.{read_guard_marker}
use Rattle.letters.proofs.read_guard_marker.Goals as goal

pub returns-then-consume : goal.returns-then-consume
unfolding read_guard_marker
returns-then-consume c = rw (sym c.consume.ensures ∙ c.if-consume.true)

pub returns-then-consume-2 : goal.returns-then-consume-2
unfolding read_guard_marker
returns-then-consume-2 c = rw (sym c.consume.ensures ∙ c.if-consume.false, sym c.consume-2.ensures ∙ c.if-consume-2.true)

pub returns-else-consume-2 : goal.returns-else-consume-2
unfolding read_guard_marker
returns-else-consume-2 c = rw (sym c.consume.ensures ∙ c.if-consume.false, sym c.consume-2.ensures ∙ c.if-consume-2.false)
