use Prim.Native.Nat.{◌-◌, ◌≤◌}
use mathlib.Core.Path.{◌≡◌}
use lib.ListN.{length, drop}
use Rattle.strings.specs.Encoded.{characters}
use Rattle.strings.proofs.encoded.read_characters.Given as goal

abbrev pub invariant-loop : goal.invariant-loop
invariant-loop l = (l.at ≤ l.i) × (l.i ≤ length l.s) × (characters l.count 0 (drop l.at l.s) ≡ characters (l.count - l.counter) (l.i - l.at) (drop l.i l.s))
