-- Assumes nothing.
use Rattle.std.proofs.Common.{sym, ap}
use Rattle.text.specs.Emit.{lit}
use Rattle.text.proofs.Seq.{writes-is}
use Rattle.serializer.proofs.names.put_part.Goals as goal

pub returns : goal.returns
returns c = writes-is (ap lit (sym c.part_of.ensures)) c.put_bytes.ensures
