-- What a rooted table promises. Assumes nothing.
use Prim.Native.Nat.{ℕ, ◌<◌}
use mathlib.Core.Bool.{Bool, true, false}
use mathlib.Core.Path.{◌≡◌, refl}
use mathlib.Core.List.{List}
use native.Mathlib.Omega.{arith}
use lib.Dec.{eqb}
use borrow.Author.Tests.{eqb-false}
use Rattle.scan.specs.Bytes.{pick}
use Rattle.node.specs.Cells.{nodes}
use Rattle.farthingmoss.specs.Call.{rooted}

rooted-held : (b c : Bool) → pick b false c ≡ true → b ≡ false
rooted-held true c e = cc
rooted-held false c e = refl

-- a rooted table has a node
pub rooted-some : (len : ℕ) (t : List ℕ) → rooted len t ≡ true → 0 < nodes t
unfolding rooted
rooted-some len t e = let n = eqb-false (nodes t) 0 (rooted-held (eqb (nodes t) 0) _ e) in omega (arith, n)
