-- Assumes nothing.
use Rattle.std.proofs.Common.{sym, ◌∙◌}
use Rattle.text.specs.Spaces.{write_space_pre, write_space_ptr, asks_by}
use Rattle.serializer.specs.Serializer.{write_name_space}
use Rattle.serializer.proofs.names.put_name_space.Goals as goal

pub returns-then-has : goal.returns-then-has
unfolding write_name_space write_space_ptr asks_by
returns-then-has c = rw (sym c.has.ensures ∙ c.if-has.true) c.put_space.ensures

pub returns-else-has : goal.returns-else-has
unfolding write_name_space write_space_pre asks_by
returns-else-has c = rw (sym c.has.ensures ∙ c.if-has.false) c.put_space-else-has.ensures
