use Rattle.std.proofs.Common.{◌≡◌, length}
use Rattle.text.proofs.Stores.{over}
use Rattle.text.proofs.buffer.fill.Given as goal

abbrev pub invariant-loop-i : goal.invariant-loop-i
invariant-loop-i l = (length l.rest ≡ length l.initial.rest) × (l.rest ≡ over l.initial.rest l.s l.i)
