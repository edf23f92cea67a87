-- Assumes nothing.
use Rattle.std.proofs.Common.{refl}
use Rattle.text.proofs.Seq.{wrote-past, has_room}
use Rattle.text.proofs.Stores.{wrote-part}
use Rattle.text.proofs.buffer.Buffer.put_digits.Goals as goal

pub returns-then-is_past : goal.returns-then-is_past
returns-then-is_past g c = (wrote-past _ c.if-is_past.ensures, refl)

pub returns : goal.returns
returns g c = (wrote-part _ _ _ (has_room c.if-is_past.ensures) c.fill_digits-count.ensures.0 c.fill_digits-count.ensures.1 c.place_after-self.ensures, refl)
