-- Assumes nothing.
use Rattle.std.proofs.Common.{sym, ◌∙◌}
use Rattle.text.specs.Spaces.{write_space, write_space_ptr, asks_by}
use Rattle.serializer.specs.Serializer.{write_qualifier_space}
use Rattle.serializer.proofs.types.qualifier_space.Goals as goal

pub returns-then-has : goal.returns-then-has
unfolding write_qualifier_space write_space_ptr asks_by
returns-then-has c = rw (sym c.has.ensures ∙ c.if-has.true)

pub returns-else-has : goal.returns-else-has
unfolding write_qualifier_space write_space asks_by
returns-else-has c = rw (sym c.has.ensures ∙ c.if-has.false)
