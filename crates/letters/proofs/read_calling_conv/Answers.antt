-- Assumes nothing.
use Rattle.letters.specs.Classes.{read_calling_conv}
use Rattle.scan.proofs.Laws.{split, past}
use Rattle.letters.proofs.read_calling_conv.Goals as goal

pub returns-then-at-s : goal.returns-then-at-s
returns-then-at-s c = rw (split c.args.s.now c.args.at c.if-at-s.true) (c.calling_conv.ensures _)

pub returns-else-at-s : goal.returns-else-at-s
unfolding read_calling_conv
returns-else-at-s c = rw (past c.args.s.now c.args.at c.if-at-s.false)
