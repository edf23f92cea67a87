use Prim.Native.Nat.{ℕ, ◌≤◌}
use mathlib.Core.Path.{◌≡◌}
use Rattle.writer.specs.Source.{tree_at}
use Rattle.text.specs.Emit.{Wrote}
use Rattle.serializer.specs.Serializer.{write_scope}
use mathlib.Core.List.{List}
use Prim.Native.Nat.{◌+◌, ◌*◌}
use Rattle.writer.proofs.Source.+writers.Given as goal

abbrev pub decreases-back : goal.decreases-back
decreases-back l = 8 * (l.r * l.r) + 1

abbrev pub decreases-cast : goal.decreases-cast
decreases-cast l = 8 * (l.up * l.up) + 1

abbrev pub decreases-class : goal.decreases-class
decreases-class l = 8 * (l.r * l.r) + 5

abbrev pub decreases-destructor : goal.decreases-destructor
decreases-destructor l = 8 * (l.b * l.b) + 2

abbrev pub decreases-entry : goal.decreases-entry
decreases-entry l = 8 * (l.r * l.r) + 0

abbrev pub decreases-front : goal.decreases-front
decreases-front l = 8 * (l.r * l.r) + 6

abbrev pub decreases-function : goal.decreases-function
decreases-function l = 8 * (l.r * l.r) + 0

abbrev pub decreases-leading : goal.decreases-leading
decreases-leading l = 8 * (l.r * l.r) + 7

abbrev pub decreases-member : goal.decreases-member
decreases-member l = 8 * (l.r * l.r) + 5

abbrev pub decreases-name : goal.decreases-name
decreases-name l = 8 * (l.up * l.up) + 4

abbrev pub decreases-one : goal.decreases-one
decreases-one l = 8 * (l.r * l.r) + 1

abbrev pub decreases-own : goal.decreases-own
decreases-own l = 8 * (l.up * l.up) + 3

abbrev pub decreases-own_operator : goal.decreases-own_operator
decreases-own_operator l = 8 * (l.up * l.up) + 2

abbrev pub decreases-params : goal.decreases-params
decreases-params l = 8 * (l.r * l.r) + 8 * l.r + 2

abbrev pub decreases-parsed : goal.decreases-parsed
decreases-parsed l = 8 * (l.r * l.r) + 5

abbrev pub decreases-pointee : goal.decreases-pointee
decreases-pointee l = 8 * (l.r * l.r) + 7

abbrev pub decreases-pointer : goal.decreases-pointer
decreases-pointer l = 8 * (l.r * l.r) + 5

abbrev pub decreases-returned : goal.decreases-returned
decreases-returned l = 8 * (l.r * l.r) + 0

abbrev pub decreases-run : goal.decreases-run
decreases-run l = 8 * (l.r * l.r) + 8 * l.n + 0

abbrev pub decreases-scope : goal.decreases-scope
decreases-scope l = 8 * (l.r * l.r) + 0

abbrev pub decreases-structor : goal.decreases-structor
decreases-structor l = 8 * (l.b * l.b) + 2

abbrev pub decreases-types : goal.decreases-types
decreases-types l = 8 * (l.r * l.r) + 8 * l.r + 1

abbrev pub decreases-vftable : goal.decreases-vftable
decreases-vftable l = 8 * (l.r * l.r) + 1

abbrev pub invariant-scope-loop-p : goal.invariant-scope-loop-p
invariant-scope-loop-p l = (l.p ≤ l.r) × (l.text.bytes.ghost_name ≡ l.initial.text.bytes.ghost_name) × ((b' : List ℕ) (o' : ℕ) → Wrote (write_scope l.self.flags (tree_at l.self l.p)) l.text.bytes.now l.text.at b' o' → Wrote (write_scope l.self.flags (tree_at l.self l.r)) l.initial.text.bytes.now l.initial.text.at b' o')

abbrev pub decreases-scope-loop-p : goal.decreases-scope-loop-p
decreases-scope-loop-p l = l.p
