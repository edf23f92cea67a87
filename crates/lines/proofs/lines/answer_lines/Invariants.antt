use Prim.Native.Nat.{ℕ, ◌-◌, ◌≤◌}
use mathlib.Core.Path.{◌≡◌}
use mathlib.Core.List.{List, ◌++◌}
use lib.ListN.{length, take, drop}
use Rattle.lines.specs.Output.{output}
use Rattle.lines.proofs.lines.answer_lines.Given as goal

abbrev pub invariant-loop-out : goal.invariant-loop-out
invariant-loop-out l = (l.at ≤ length l.input) × (l.put ≤ length l.initial.out) × (length l.out ≡ length l.initial.out) × ((more : List ℕ) → take l.put l.out ++ output (drop l.at l.input ++ more) ≡ take l.used l.initial.out ++ output (l.input ++ more))

abbrev pub decreases-loop-out : goal.decreases-loop-out
decreases-loop-out l = length l.input - l.at
