-- What an open gate promises. Assumes nothing.
use Prim.Native.Nat.{ℕ, ◌≤◌}
use mathlib.Core.Bool.{Bool, true, false}
use mathlib.Core.Path.{◌≡◌, refl}
use mathlib.Core.List.{List}
use lib.Dec.{leb}
use borrow.Author.Tests.{leb-true}
use Rattle.std.specs.Prelude.{Ok, Err}
use Rattle.scan.specs.Bytes.{pick}
use Rattle.gates.specs.declared.Closed.TheVariants.{Call}
use Rattle.gates.specs.Gates.{Gate, gate}
use Rattle.scan.specs.Limits.{deepest_reading}

-- a test that leads to Call where it fails has held before Ok
open-held : (b : Bool) (g : Gate) → pick b g (Err Call) ≡ Ok tt → b ≡ true
open-held true g e = refl
open-held false g e = cc

pub open-low : (f depth : ℕ) (s : List ℕ) → gate f depth s ≡ Ok tt → depth ≤ deepest_reading
unfolding gate
open-low f depth s e = leb-true depth deepest_reading (open-held (leb depth deepest_reading) _ e)
