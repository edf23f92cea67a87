-- Assumes nothing.
use Rattle.letters.specs.Classes.{read_storage_class}
use Rattle.scan.proofs.Laws.{split, past}
use Rattle.letters.proofs.read_storage_class.Goals as goal

pub returns-then-at-s : goal.returns-then-at-s
returns-then-at-s c = rw (split c.args.s.now c.args.at c.if-at-s.true) (c.storage_class.ensures _)

pub returns-else-at-s : goal.returns-else-at-s
unfolding read_storage_class
returns-else-at-s c = rw (past c.args.s.now c.args.at c.if-at-s.false)
