use Prim.Native.Nat.{◌+◌, ◌≤◌, ◌<◌, ◌-◌, ◌^◌}
use mathlib.Core.Path.{◌≡◌}
use lib.ListN.{length, drop}
use Rattle.scan.specs.Number.{digits}
use Rattle.scan.proofs.number.read_digits.Given as goal

abbrev pub invariant-loop-c : goal.invariant-loop-c
invariant-loop-c l = (l.at + l.n ≤ length l.s) × (l.v < 2 ^ 32) × (digits l.low l.base l.taken l.first (drop (l.at + l.taken) l.s) ≡ digits l.low l.base l.n l.v (drop (l.at + l.n) l.s))

abbrev pub decreases-loop-c : goal.decreases-loop-c
decreases-loop-c l = length l.s - (l.at + l.n)
