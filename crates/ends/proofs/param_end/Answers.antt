-- Assumes nothing.
use Prim.Native.Nat.{◌-◌, ◌<◌, ◌≤◌}
use native.Mathlib.Omega.{arith}
use borrow.Author.Tests.{lt-ltb, le-ltb}
use Rattle.steps.proofs.Laws.{does-keeps}
use Rattle.steps.proofs.More.{does-here, does-given, does-chosen, does-other}
use Rattle.ends.proofs.param_end.Goals.{then-from-st, else-from-st}
use Rattle.ends.proofs.param_end.Goals as goal

pub returns : goal.returns
returns c =
    λ d. does-here (elim c.if-from-st.branch [
      | then-from-st w ↦
          let h : 1 < c.args.st.now.at - c.args.from = omega arith in
          does-chosen (lt-ltb _ _ h) (does-keeps (rw w.st-is w.memorize_type.ensures) (c.place.ensures d))
      | else-from-st w ↦
          let h : c.args.st.now.at - c.args.from ≤ 1 = omega arith in
          let k = c.place.ensures d in
          does-other (le-ltb _ _ h) (does-given (rw w.st-is at k))
    ])
