-- Assumes nothing.
use mathlib.Core.Path.{sym, ◌∙◌}
use native.Mathlib.Omega.{arith}
use Rattle.farthingmoss.proofs.Roots.{rooted-some}
use Rattle.farthingmoss.proofs.write_root.Goals as goal

pub overflow_sub-count : goal.overflow_sub-count
overflow_sub-count c = omega (arith, rooted-some _ _ (sym c.is_rooted.ensures ∙ c.if-not-is_rooted.false), c.room-count.ensures)
