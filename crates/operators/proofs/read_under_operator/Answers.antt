-- Assumes nothing.
use Prim.Native.Nat.{◌+◌}
use Rattle.operators.specs.Operators.{read_operator}
use Rattle.scan.proofs.Laws.{split, past}
use Rattle.operators.proofs.read_under_operator.Goals as goal

pub returns-then-s-at : goal.returns-then-s-at
unfolding read_operator
returns-then-s-at c = rw (past c.args.s.now c.args.at c.if-s-at.true)

pub returns-then-next-s : goal.returns-then-next-s
returns-then-next-s c = rw ((split c.args.s.now c.args.at c.if-s-at.false), c.in-95.is, split c.args.s.now (c.args.at + 1) c.if-next-s.true) (c.double_under_operator.ensures _)

pub returns-else-next-s : goal.returns-else-next-s
unfolding read_operator
returns-else-next-s c = rw ((split c.args.s.now c.args.at c.if-s-at.false), c.in-95.is, past c.args.s.now (c.args.at + 1) c.if-next-s.false)

pub returns-then-next-s-2 : goal.returns-then-next-s-2
returns-then-next-s-2 c = rw ((split c.args.s.now c.args.at c.if-s-at.false), c.in-82.is, split c.args.s.now (c.args.at + 1) c.if-next-s-2.true) (c.rtti_operator.ensures _)

pub returns-else-next-s-2 : goal.returns-else-next-s-2
unfolding read_operator
returns-else-next-s-2 c = rw ((split c.args.s.now c.args.at c.if-s-at.false), c.in-82.is, past c.args.s.now (c.args.at + 1) c.if-next-s-2.false)

pub returns-in_default : goal.returns-in_default
returns-in_default c = rw ((split c.args.s.now c.args.at c.if-s-at.false)) (c.under_operator.ensures _)
