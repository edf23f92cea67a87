-- Assumes nothing.
use mathlib.Core.Path.{sym, ◌∙◌}
use Rattle.forms.specs.Types.{type_start}
use Rattle.forms.proofs.types.start_of_pointer.Goals as goal

pub returns-then-consume : goal.returns-then-consume
unfolding type_start
returns-then-consume c = rw (sym c.consume.ensures ∙ c.if-consume.true)

pub returns : goal.returns
unfolding type_start
returns c = rw (sym c.consume.ensures ∙ c.if-consume.false) c.start_if.ensures
