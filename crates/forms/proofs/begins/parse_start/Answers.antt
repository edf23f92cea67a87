-- Assumes nothing.
use mathlib.Core.Path.{sym, ◌∙◌}
use Rattle.forms.specs.Begins.{parse_start}
use Rattle.forms.proofs.begins.parse_start.Goals as goal

pub returns-then-consume : goal.returns-then-consume
unfolding parse_start
returns-then-consume c = rw (sym c.consume.ensures ∙ c.if-consume.true)

pub returns-then-consume-2 : goal.returns-then-consume-2
unfolding parse_start
returns-then-consume-2 c = rw ((sym c.consume.ensures ∙ c.if-consume.false), sym c.consume-2.ensures ∙ c.if-consume-2.true)

pub returns-then-consume-3 : goal.returns-then-consume-3
unfolding parse_start
returns-then-consume-3 c = rw ((sym c.consume.ensures ∙ c.if-consume.false), (sym c.consume-2.ensures ∙ c.if-consume-2.false), sym c.consume-3.ensures ∙ c.if-consume-3.true)

pub returns : goal.returns
unfolding parse_start
returns c = rw ((sym c.consume.ensures ∙ c.if-consume.false), (sym c.consume-2.ensures ∙ c.if-consume-2.false), sym c.consume-3.ensures ∙ c.if-consume-3.false)
