-- Assumes nothing.
use Rattle.promises.proofs.Kept.{kept}
use Rattle.promises.proofs.all_kept.Goals as goal

pub returns : goal.returns
returns c = kept
