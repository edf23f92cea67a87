-- Assumes nothing.
use mathlib.Core.Path.{sym, ◌∙◌}
use native.Mathlib.Omega.{arith}
use Rattle.gates.proofs.Opens.{open-low}
use Rattle.farthingmoss.proofs.demangle.Goals as goal

pub overflow_cast-depth : goal.overflow_cast-depth
overflow_cast-depth c = omega (arith, open-low _ _ _ (sym c.call_gate.ensures ∙ c.in_ok-call_gate.was))
