-- Assumes nothing.
use Rattle.meaning.proofs.Union.{joins-flip}
use Rattle.meaning.proofs.links.link.Goals as goal

pub returns-then-x-y : goal.returns-then-x-y
returns-then-x-y c = joins-flip c.point.ensures
