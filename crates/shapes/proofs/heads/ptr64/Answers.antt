-- Assumes nothing.
use Rattle.steps.proofs.Choices.{values-met, values-ret, values-unmet}
use Rattle.shapes.proofs.heads.ptr64.Goals as goal

pub returns-then-consume-clause-classes : goal.returns-then-consume-clause-classes
returns-then-consume-clause-classes c = values-met "E" c.consume.ensures c.if-consume.true values-ret

pub returns-else-consume-clause-classes : goal.returns-else-consume-clause-classes
returns-else-consume-clause-classes c = values-unmet "E" c.consume.ensures c.if-consume.false values-ret
