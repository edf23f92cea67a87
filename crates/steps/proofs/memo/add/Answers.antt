-- Assumes nothing.
use Rattle.steps.proofs.Memos.{adds-full, adds-held, adds-more}
use Rattle.steps.proofs.memo.add.Goals as goal

pub returns-then-first-ge-FULL : goal.returns-then-first-ge-FULL
returns-then-first-ge-FULL c = adds-full c.if-first-ge-FULL.true

pub returns-then-holds : goal.returns-then-holds
returns-then-holds c = adds-held c.if-first-ge-FULL.false c.counted.ensures c.holds.ensures c.if-holds.true

pub returns : goal.returns
returns c = adds-more c.if-first-ge-FULL.false c.counted.ensures c.holds.ensures c.if-holds.false
