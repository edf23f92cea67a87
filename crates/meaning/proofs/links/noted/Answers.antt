-- Assumes nothing.
use native.Mathlib.Omega.{arith}
use mathlib.Core.Path.{◌≡◌}
use Prim.Native.Nat.{◌-◌}
use lib.ListN.{get_or}
use Rattle.std.proofs.lemmas.Bool.Decides.{nat_tests}
use Rattle.meaning.proofs.Union.{note-past, note-is}
use Rattle.meaning.proofs.links.noted.Goals as goal

pub returns-in-Some : goal.returns-in-Some
returns-in-Some c =
    let v : c.in-Some.v.now ≡ get_or c.args.links.now (c.args.y - 1) 0 = grind (arith, nat_tests, c.in-Some.ensures.lookup) in
    let w : c.saturating_sub.result ≡ get_or c.args.links.now (c.args.y - 1) 0 - 32768 = omega (arith, v, c.from.ensures, c.saturating_sub.ensures) in
    rw w (note-is _ _ _ c.requires.0 c.requires.1)

pub returns-in-None : goal.returns-in-None
returns-in-None c = note-past _ _ _ c.requires.0 (grind (arith, nat_tests, c.requires, c.in-None.ensures.lookup))
