use Rattle.std.proofs.Common.{◌≡◌, ◌^◌, ◌<◌, ◌≤◌, [], length, drop}
use Rattle.text.specs.Decimal.{digits}
use Rattle.text.proofs.decimal.fill_back.Given as goal

abbrev pub invariant-loop-i : goal.invariant-loop-i
invariant-loop-i l = (l.i ≤ length l.initial.buf) × (l.v < 2 ^ 64) × (length l.buf ≡ length l.initial.buf) × (digits (length l.initial.buf) l.n [] ≡ digits l.i l.v (drop l.i l.buf))
