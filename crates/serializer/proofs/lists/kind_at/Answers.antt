-- Assumes nothing.
use Rattle.std.proofs.Common.{sym, arith}
use Rattle.serializer.proofs.Nodes.{kind-is, kind-none}
use Rattle.serializer.proofs.lists.kind_at.Goals as goal

pub returns-then-r-eq0 : goal.returns-then-r-eq0
returns-then-r-eq0 c = λ s. sym (kind-none _ s c.if-r-eq0.true)

pub returns : goal.returns
returns c = λ s. sym (kind-is _ s (omega arith) c.kind.ensures)
