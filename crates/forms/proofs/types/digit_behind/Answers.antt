-- Assumes nothing.
use Prim.Native.Nat.{◌+◌}
use mathlib.Core.Path.{sym, ◌∙◌}
use native.Mathlib.Omega.{arith}
use lib.Seq.{drop-drop}
use Rattle.forms.proofs.Starts.{digit_at}
use Rattle.forms.proofs.types.digit_behind.Goals as goal

pub overflow_add-result : goal.overflow_add-result
overflow_add-result c = omega (arith, digit_at c.args.s.now (c.args.at + c.args.n) (sym c.read_digit.ensures ∙ c.in_ok-d.was))

pub returns-in_err-d : goal.returns-in_err-d
returns-in_err-d c = rw ((drop-drop c.args.n c.args.at c.args.s.now), sym c.read_digit.ensures ∙ c.in_err-d.was) c.from_residual.ensures

pub returns : goal.returns
returns c = rw ((drop-drop c.args.n c.args.at c.args.s.now), sym c.read_digit.ensures ∙ c.in_ok-d.was)
