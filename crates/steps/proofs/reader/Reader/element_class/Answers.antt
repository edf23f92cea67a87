-- Assumes nothing.
use Rattle.steps.proofs.Choices.{values-ret, values-met, values-unmet}
use Rattle.steps.proofs.reader.Reader.element_class.Goals as goal

pub returns-then-consume : goal.returns-then-consume
returns-then-consume c = values-met "$$C" c.consume.ensures c.if-consume.true c.element_letter.ensures

pub returns-else-consume : goal.returns-else-consume
returns-else-consume c = values-unmet "$$C" c.consume.ensures c.if-consume.false values-ret
