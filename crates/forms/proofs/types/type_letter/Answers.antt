-- Assumes nothing.
use Prim.Native.Nat.{◌+◌}
use Rattle.forms.specs.Types.{type_letter}
use Rattle.scan.proofs.Laws.{split, past}
use Rattle.forms.proofs.types.type_letter.Goals as goal

pub returns-then-s-at : goal.returns-then-s-at
unfolding type_letter
returns-then-s-at c = rw (past c.args.s.now c.args.at c.if-s-at.true)

pub returns-then-c-ne95 : goal.returns-then-c-ne95
returns-then-c-ne95 c = rw ((split c.args.s.now c.args.at c.if-s-at.false)) (c.one_letter.ensures _)

pub returns-then-next-s : goal.returns-then-next-s
returns-then-next-s c = rw ((split c.args.s.now c.args.at c.if-s-at.false), c.if-c-ne95.false, split c.args.s.now (c.args.at + 1) c.if-next-s.true) (c.two_letters.ensures _)

pub returns-else-next-s : goal.returns-else-next-s
unfolding type_letter
returns-else-next-s c = rw ((split c.args.s.now c.args.at c.if-s-at.false), c.if-c-ne95.false, past c.args.s.now (c.args.at + 1) c.if-next-s.false)
