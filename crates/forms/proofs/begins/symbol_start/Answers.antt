-- Assumes nothing.
use Rattle.forms.specs.Begins.{symbol_start}
use Rattle.scan.proofs.Laws.{split, past}
use Rattle.forms.proofs.begins.symbol_start.Goals as goal

pub returns-then-at-s : goal.returns-then-at-s
returns-then-at-s c = rw (split c.args.s.now c.args.at c.if-at-s.true) (c.symbol_letter.ensures _)

pub returns-else-at-s : goal.returns-else-at-s
unfolding symbol_start
returns-else-at-s c = rw (past c.args.s.now c.args.at c.if-at-s.false)
