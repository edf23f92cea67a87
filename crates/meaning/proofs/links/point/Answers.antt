-- Assumes nothing.
use Rattle.meaning.proofs.Union.{joins_set}
use Rattle.meaning.proofs.links.point.Goals as goal

pub returns-then-y-lt-NOTES : goal.returns-then-y-lt-NOTES
returns-then-y-lt-NOTES c = joins_set _ _ _ c.requires c.if-y-lt-NOTES.true
