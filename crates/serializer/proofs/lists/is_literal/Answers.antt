-- Assumes nothing.
use Rattle.std.proofs.Common.{[], sym, arith}
use Rattle.serializer.proofs.Walks.{kind-low, literal-is, literal-not}
use Rattle.serializer.proofs.lists.is_literal.Goals as goal

pub overflow_sub-r : goal.overflow_sub-r
overflow_sub-r c = kind-low _ [] _ (c.kind_at.ensures []) (omega arith)

pub returns-then-kind_at-eq-OPERATOR : goal.returns-then-kind_at-eq-OPERATOR
returns-then-kind_at-eq-OPERATOR c = λ s. sym (literal-is _ s _ (c.kind_at.ensures s) c.if-kind_at-eq-OPERATOR.true c.number.ensures)

pub returns : goal.returns
returns c = λ s. sym (literal-not _ (c.kind_at.ensures s) c.if-kind_at-eq-OPERATOR.false)
