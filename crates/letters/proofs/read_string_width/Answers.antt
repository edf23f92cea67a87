-- Assumes nothing.
use Rattle.letters.specs.Classes.{read_string_width}
use Rattle.scan.proofs.Laws.{split, past}
use Rattle.letters.proofs.read_string_width.Goals as goal

pub returns-then-at-s : goal.returns-then-at-s
returns-then-at-s c = rw (split c.args.s.now c.args.at c.if-at-s.true) (c.string_width.ensures _)

pub returns-else-at-s : goal.returns-else-at-s
unfolding read_string_width
returns-else-at-s c = rw (past c.args.s.now c.args.at c.if-at-s.false)
