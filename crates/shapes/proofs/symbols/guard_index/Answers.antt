-- Assumes nothing.
use Rattle.steps.proofs.Laws.{handed}
use Rattle.steps.proofs.Choices.{values-bad, values-ret, values-then}
use Rattle.grammar.specs.Grammar.{guard_index}
use Rattle.shapes.proofs.symbols.guard_index.Goals as goal

pub returns-then-not-guard : goal.returns-then-not-guard
unfolding guard_index
returns-then-not-guard c = rw c.if-not-guard.true values-ret

pub returns-in_err-guard_marker : goal.returns-in_err-guard_marker
unfolding guard_index
returns-in_err-guard_marker c = rw c.if-not-guard.false (values-bad c.guard_marker.ensures c.in_err-guard_marker.was (handed c.from_residual.ensures))

pub returns : goal.returns
unfolding guard_index
returns c = rw c.if-not-guard.false (values-then c.guard_marker.ensures c.in_ok-guard_marker.was c.index_and_one.ensures)
