-- Assumes nothing.
use Rattle.std.proofs.Common.{sym, arith}
use Rattle.text.proofs.Seq.{place-full, place-fits, place-over}
use Rattle.text.proofs.buffer.advance.Goals as goal

pub returns-then-room-o : goal.returns-then-room-o
returns-then-room-o c = sym (place-full _ _ _ c.if-room-o.true)

pub returns-then-n-room : goal.returns-then-n-room
returns-then-n-room c = sym (place-fits _ _ _ (omega arith))

pub returns-else-n-room : goal.returns-else-n-room
returns-else-n-room c = sym (place-over _ _ _ (omega arith) (omega arith))
