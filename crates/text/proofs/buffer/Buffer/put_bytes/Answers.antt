-- Assumes nothing.
use Rattle.std.proofs.Common.{refl}
use Rattle.text.proofs.Seq.{wrote-past, has_room}
use Rattle.text.proofs.Stores.{wrote-part}
use Rattle.text.proofs.buffer.Buffer.put_bytes.Goals as goal

pub returns-then-is_past : goal.returns-then-is_past
returns-then-is_past c = (wrote-past _ c.if-is_past.ensures, refl)

pub returns : goal.returns
returns c = (wrote-part _ _ _ (has_room c.if-is_past.ensures) c.fill.ensures refl c.place_after-self.ensures, refl)
