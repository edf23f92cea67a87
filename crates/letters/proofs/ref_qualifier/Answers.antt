-- Assumes nothing.
use borrow.Author.Tests.{ne_eqb}
use Rattle.scan.proofs.Laws.{split, past}
use Rattle.letters.proofs.ref_qualifier.Goals as goal

pub returns-then-s-at : goal.returns-then-s-at
returns-then-s-at c = rw (past c.args.s.now c.args.at c.if-s-at.true)

pub returns-in-71 : goal.returns-in-71
returns-in-71 c = rw (split c.args.s.now c.args.at c.if-s-at.false, c.in-71.is)

pub returns-in-72 : goal.returns-in-72
returns-in-72 c = rw (split c.args.s.now c.args.at c.if-s-at.false, c.in-72.is)

pub returns-in_default : goal.returns-in_default
returns-in_default c = rw (split c.args.s.now c.args.at c.if-s-at.false, ne_eqb _ _ c.in_default.in_default-own.rest.0.1, ne_eqb _ _ c.in_default.in_default-own.rest.1)
