use Prim.Native.Nat.{◌-◌}
use mathlib.Core.Path.{◌≡◌}
use lib.ListN.{length, drop}
use Rattle.grammar.specs.Program.{any_of}
use Rattle.steps.specs.Does.{same_in}
use Rattle.steps.proofs.memo.+sought.Given as goal

abbrev pub decreases-sought : goal.decreases-sought
decreases-sought l = length l.entries.now - l.from

abbrev pub invariant-loop-i : goal.invariant-loop-i
invariant-loop-i l = any_of (same_in l.front l.s l.n) (drop l.from l.entries) ≡ any_of (same_in l.front l.s l.n) (drop l.i l.entries)
