-- Assumes nothing.
use Rattle.scan.proofs.Laws.{split, past}
use borrow.Author.Tests.{eq-eqb, ne_eqb}
use Rattle.letters.proofs.optional_letter.Goals as goal

pub returns-then-s-at : goal.returns-then-s-at
returns-then-s-at c = rw (split c.args.s.now c.args.at c.if-at-s.true, eq-eqb _ _ c.if-s-at.true)

pub returns-else-s-at : goal.returns-else-s-at
returns-else-s-at c = rw (split c.args.s.now c.args.at c.if-at-s.true, ne_eqb _ _ c.if-s-at.false)

pub returns-else-at-s : goal.returns-else-at-s
returns-else-at-s c = rw (past c.args.s.now c.args.at c.if-at-s.false)
