-- Assumes nothing.
use Rattle.operators.specs.Operators.{read_operator}
use Rattle.scan.proofs.Laws.{split, past}
use Rattle.operators.proofs.read_operator.Goals as goal

pub returns-then-s-at : goal.returns-then-s-at
unfolding read_operator
returns-then-s-at c = rw (past c.args.s.now c.args.at c.if-s-at.true)

pub returns-then-c-eq95 : goal.returns-then-c-eq95
returns-then-c-eq95 c = rw ((split c.args.s.now c.args.at c.if-s-at.false), c.if-c-eq95.true) c.read_under_operator.ensures

pub returns-else-c-eq95 : goal.returns-else-c-eq95
returns-else-c-eq95 c = rw ((split c.args.s.now c.args.at c.if-s-at.false)) (c.operator.ensures _)
