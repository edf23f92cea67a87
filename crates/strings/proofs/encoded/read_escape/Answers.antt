-- Assumes nothing.
use Rattle.strings.specs.Encoded.{escape}
use Rattle.scan.proofs.Laws.{split, past}
use Rattle.strings.proofs.encoded.read_escape.Goals as goal

pub returns-then-s-at : goal.returns-then-s-at
unfolding escape
returns-then-s-at c = rw (past c.args.s.now c.args.at c.if-s-at.true)

pub returns-then-c-eq36 : goal.returns-then-c-eq36
unfolding escape
returns-then-c-eq36 c = rw ((split c.args.s.now c.args.at c.if-s-at.false), c.if-c-eq36.true) c.read_hex_pair.ensures

pub returns-else-c-eq36 : goal.returns-else-c-eq36
returns-else-c-eq36 c = rw (split c.args.s.now c.args.at c.if-s-at.false) (c.escape_letter.ensures _)
