-- Assumes nothing.
use mathlib.Core.Path.{sym}
use Rattle.text.specs.Spaces.{asks_by, write_space}
use Rattle.text.proofs.Seq.{writes-seq}
use Rattle.writer.proofs.Source.descriptor.Goals as goal

pub returns : goal.returns
unfolding write_space asks_by
returns c = rw (sym c.number.ensures, sym c.number-2.ensures, sym c.number-3.ensures, sym c.number-4.ensures) (writes-seq c.put_space.ensures c.put_base_class.ensures)
