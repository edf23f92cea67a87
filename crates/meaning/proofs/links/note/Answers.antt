-- Assumes nothing.
use Rattle.meaning.proofs.Union.{parts-set}
use Rattle.meaning.proofs.links.note.Goals as goal

pub returns-then-x-lt-NOTES : goal.returns-then-x-lt-NOTES
returns-then-x-lt-NOTES c = parts-set _ _ _ c.if-x-lt-NOTES.true c.requires
