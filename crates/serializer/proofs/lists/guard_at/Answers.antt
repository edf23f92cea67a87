-- Assumes nothing.
use Rattle.std.proofs.Common.{[], sym, arith}
use Rattle.serializer.proofs.Walks.{kind-low, guard-is, guard-not}
use Rattle.serializer.proofs.lists.guard_at.Goals as goal

pub overflow_sub-up : goal.overflow_sub-up
overflow_sub-up c = kind-low _ [] _ (c.kind_at.ensures []) (omega arith)

pub returns-then-kind_at-eq-PARSE_RESULT : goal.returns-then-kind_at-eq-PARSE_RESULT
returns-then-kind_at-eq-PARSE_RESULT c = λ s. sym (guard-is _ s _ (c.kind_at.ensures s) c.if-kind_at-eq-PARSE_RESULT.true c.number.ensures)

pub returns : goal.returns
returns c = λ s. sym (guard-not _ (c.kind_at.ensures s) c.if-kind_at-eq-PARSE_RESULT.false)
