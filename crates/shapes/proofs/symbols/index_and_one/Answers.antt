-- Assumes nothing.
use native.Mathlib.Omega.{arith}
use Rattle.steps.proofs.Laws.{handed}
use Rattle.shapes.proofs.Endings.{index-none, index-some}
use Rattle.shapes.proofs.Bounds.{index-small}
use Rattle.steps.proofs.Choices.{values-bad, values-ret, values-then}
use Rattle.shapes.proofs.symbols.index_and_one.Goals as goal

pub returns-then-r-st : goal.returns-then-r-st
returns-then-r-st c = index-none c.if-r-st.true

pub returns-in_err-index : goal.returns-in_err-index
returns-in_err-index c = index-some (omega (arith, c.if-r-st.false)) (values-bad c.unsigned.ensures c.in_err-index.was (handed c.from_residual.ensures))

pub overflow_add-result : goal.overflow_add-result
overflow_add-result c = omega (arith, index-small c.unsigned.ensures c.in_ok-index.was)

pub returns : goal.returns
returns c = index-some (omega (arith, c.if-r-st.false)) (values-then c.unsigned.ensures c.in_ok-index.was values-ret)
