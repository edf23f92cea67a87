use Prim.Native.Nat.{◌≤◌, ◌-◌}
use mathlib.Core.Path.{◌≡◌}
use lib.ListN.{length}
use Rattle.meaning.specs.Tree.{decoded, eq_list}
use Rattle.meaning.proofs.Decoded.{strings}
use Rattle.meaning.proofs.same_decoded.Given as goal

abbrev pub invariant-loop-v : goal.invariant-loop-v
invariant-loop-v l = (l.i ≤ length l.a) × (l.j ≤ length l.b) × (eq_list (decoded l.a) (decoded l.b) ≡ strings l.a l.b l.i l.j)

abbrev pub decreases-loop-v : goal.decreases-loop-v
decreases-loop-v l = length l.a - l.i
