-- Assumes nothing.
use Rattle.steps.proofs.Choices.{values-met, values-ret, values-unmet}
use Rattle.shapes.proofs.heads.variable_class.Goals as goal

pub returns-then-consume : goal.returns-then-consume
returns-then-consume c = values-met "?" c.consume.ensures c.if-consume.true c.storage_class.ensures

pub returns-else-consume : goal.returns-else-consume
returns-else-consume c = values-unmet "?" c.consume.ensures c.if-consume.false values-ret
