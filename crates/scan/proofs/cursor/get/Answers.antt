-- Assumes nothing.
use Rattle.std.proofs.Common.{◌∙◌}
use Rattle.scan.proofs.Laws.{byte-at}
use Rattle.scan.proofs.cursor.get.Goals as goal

pub returns : goal.returns
returns c = c.copied.ensures ∙ byte-at c.args.s.now c.args.at c.get.result c.get.ensures.lookup
