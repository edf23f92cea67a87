-- Assumes nothing.
use Rattle.forms.specs.Types.{type_start}
use Rattle.scan.proofs.Laws.{split, past}
use Rattle.forms.proofs.types.start_behind_two.Goals as goal

pub returns-then-s-at : goal.returns-then-s-at
unfolding type_start
returns-then-s-at c = rw (past c.args.s.now c.args.at c.if-s-at.true)

pub returns-in-66 : goal.returns-in-66
unfolding type_start
returns-in-66 c = rw ((split c.args.s.now c.args.at c.if-s-at.false), c.in-66.is) c.start_if.ensures

pub returns-in-36 : goal.returns-in-36
unfolding type_start
returns-in-36 c = rw ((split c.args.s.now c.args.at c.if-s-at.false), c.in-36.is) c.start_if-in-36.ensures

pub returns-in-65 : goal.returns-in-65
returns-in-65 c = rw ((split c.args.s.now c.args.at c.if-s-at.false), c.in-65.is) c.start_of_function.ensures

pub returns-in_default : goal.returns-in_default
returns-in_default c = rw ((split c.args.s.now c.args.at c.if-s-at.false)) (c.two_dollars.ensures _)
