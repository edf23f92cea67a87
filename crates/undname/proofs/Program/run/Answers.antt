-- No byte is kept before the first turn, and so no newline.
use Rattle.undname.proofs.Turning.{begin}
use Rattle.undname.proofs.Program.run.Goals as goal

pub turns-init : goal.turns-init
turns-init c = begin _
