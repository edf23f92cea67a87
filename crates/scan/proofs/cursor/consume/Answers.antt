-- Assumes nothing.
use Rattle.std.proofs.Common.{◌∙◌}
use Rattle.scan.proofs.Laws.{starts-same}
use Rattle.scan.proofs.cursor.consume.Goals as goal

pub returns : goal.returns
returns c = rw (← c.rest.ensures) (c.starts_with.ensures.value ∙ starts-same c.args.literal.now c.rest.result.now)
