-- Assumes nothing.
use Rattle.std.proofs.Common.{eq-eqb, ne_eqb}
use Rattle.text.proofs.Seq.{writes-seq, writes-none}
use Rattle.serializer.specs.Serializer.{write_guard}
use Rattle.serializer.proofs.names.put_guard.Goals as goal

pub returns-then-g-eq0 : goal.returns-then-g-eq0
unfolding write_guard
returns-then-g-eq0 c = rw (eq-eqb _ _ c.if-g-eq0.true) writes-none

pub returns : goal.returns
unfolding write_guard
returns c = rw (ne_eqb _ _ c.if-g-eq0.false) (writes-seq c.put.ensures (writes-seq c.put_unsigned.ensures c.put-2.ensures))
