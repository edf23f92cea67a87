-- Assumes nothing.
use mathlib.Core.Path.{sym, ◌∙◌}
use Rattle.forms.specs.Begins.{name_start}
use Rattle.forms.proofs.begins.name_behind_a.Goals as goal

pub returns-then-consume : goal.returns-then-consume
unfolding name_start
returns-then-consume c = rw (sym c.consume.ensures ∙ c.if-consume.true)

pub returns-else-consume : goal.returns-else-consume
unfolding name_start
returns-else-consume c = rw (sym c.consume.ensures ∙ c.if-consume.false)
