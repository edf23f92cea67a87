-- Assumes nothing.
use Rattle.std.proofs.Common.{ne_eqb}
use Rattle.text.proofs.Seq.{writes-none}
use Rattle.serializer.specs.Serializer.{write_closing}
use Rattle.serializer.proofs.types.put_closing.Goals as goal

pub returns-in-18 : goal.returns-in-18
unfolding write_closing
returns-in-18 c = rw c.in-18.is c.put.ensures

pub returns-in-20 : goal.returns-in-20
unfolding write_closing
returns-in-20 c = rw c.in-20.is c.put-in-20.ensures

pub returns-in-31 : goal.returns-in-31
unfolding write_closing
returns-in-31 c = rw c.in-31.is c.put-in-31.ensures

pub returns-in_default : goal.returns-in_default
unfolding write_closing
returns-in_default c = rw (ne_eqb _ _ c.in_default.in_default-own.rest.1, ne_eqb _ _ c.in_default.in_default-own.rest.0.1, ne_eqb _ _ c.in_default.in_default-own.rest.0.0.1) writes-none
