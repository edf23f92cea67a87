-- Assumes nothing.
use Rattle.std.proofs.Common.{sym, ◌∙◌}
use Rattle.text.specs.Spaces.{write_space, write_space_ptr, asks_by}
use Rattle.text.proofs.Seq.{writes-none}
use Rattle.serializer.specs.Serializer.{write_hug}
use Rattle.serializer.proofs.types.put_hug.Goals as goal

pub returns-then-not-has : goal.returns-then-not-has
unfolding write_hug write_space asks_by
returns-then-not-has c = rw (sym c.has.ensures ∙ c.if-not-has.true) c.put_space.ensures

pub returns-then-has : goal.returns-then-has
unfolding write_hug write_space_ptr asks_by
returns-then-has c = rw (sym c.has.ensures ∙ c.if-not-has.false, sym c.has-else-not-has.ensures ∙ c.if-has.true) c.put_space-then-has.ensures

pub returns-else-has : goal.returns-else-has
unfolding write_hug
returns-else-has c = rw (sym c.has.ensures ∙ c.if-not-has.false, sym c.has-else-not-has.ensures ∙ c.if-has.false) writes-none
