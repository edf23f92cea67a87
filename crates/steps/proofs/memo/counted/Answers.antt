-- Assumes nothing.
use Prim.Native.Nat.{◌*◌}
use mathlib.Core.Path.{sym}
use native.Mathlib.Omega.{arith}
use lib.Seq.{take_all, length-take-le}
use Rattle.steps.proofs.memo.counted.Goals as goal

pub slice_bounds-result-end : goal.slice_bounds-result-end
slice_bounds-result-end c = sym (length-take-le (c.args.used * 12) c.args.t.now c.if-n-t.true)

pub returns-else-n-t : goal.returns-else-n-t
returns-else-n-t c = sym (take_all (c.args.used * 12) c.args.t.now (omega (arith, c.if-n-t.false)))
