-- Assumes nothing.
use borrow.Author.Tests.{ne_eqb}
use Rattle.letters.specs.Classes.{read_storage_class_for_return}
use Rattle.scan.proofs.Laws.{split, past}
use Rattle.letters.proofs.read_storage_class_for_return.Goals as goal

pub returns-then-s-at : goal.returns-then-s-at
unfolding read_storage_class_for_return
returns-then-s-at c = rw (past c.args.s.now c.args.at c.if-s-at.true)

pub returns-then-s-at-ne63 : goal.returns-then-s-at-ne63
unfolding read_storage_class_for_return
returns-then-s-at-ne63 c = rw (split c.args.s.now c.args.at c.if-s-at.false, ne_eqb _ _ c.if-s-at-ne63.true)

pub returns-then-next-s : goal.returns-then-next-s
returns-then-next-s c = rw (split c.args.s.now c.args.at c.if-s-at.false, c.if-s-at-ne63.false, split c.args.s.now _ c.if-next-s.true) (c.return_class.ensures _)

pub returns-else-next-s : goal.returns-else-next-s
unfolding read_storage_class_for_return
returns-else-next-s c = rw (split c.args.s.now c.args.at c.if-s-at.false, c.if-s-at-ne63.false, past c.args.s.now _ c.if-next-s.false)
