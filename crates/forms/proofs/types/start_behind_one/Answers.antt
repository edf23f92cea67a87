-- Assumes nothing.
use Rattle.forms.specs.Types.{type_start}
use Rattle.scan.proofs.Laws.{split, past}
use Rattle.forms.proofs.types.start_behind_one.Goals as goal

pub returns-then-s-at : goal.returns-then-s-at
unfolding type_start
returns-then-s-at c = rw (past c.args.s.now c.args.at c.if-s-at.true)

pub returns-then-c-eq36 : goal.returns-then-c-eq36
returns-then-c-eq36 c = rw ((split c.args.s.now c.args.at c.if-s-at.false), c.if-c-eq36.true) c.start_behind_two.ensures

pub returns-else-c-eq36 : goal.returns-else-c-eq36
returns-else-c-eq36 c = rw ((split c.args.s.now c.args.at c.if-s-at.false)) (c.one_dollar.ensures _)
