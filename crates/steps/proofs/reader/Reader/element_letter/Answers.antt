-- Assumes nothing.
use Rattle.steps.proofs.Choices.{values-ret, values-fail, values-met, values-unmet}
use Rattle.steps.proofs.reader.Reader.element_letter.Goals as goal

pub returns-then-consume : goal.returns-then-consume
returns-then-consume c = values-met "B" c.consume.ensures c.if-consume.true values-ret

pub returns-then-consume-2 : goal.returns-then-consume-2
returns-then-consume-2 c = values-unmet "B" c.consume.ensures c.if-consume.false (values-met "C" c.consume-2.ensures c.if-consume-2.true values-ret)

pub returns-then-consume-3 : goal.returns-then-consume-3
returns-then-consume-3 c = values-unmet "B" c.consume.ensures c.if-consume.false (values-unmet "C" c.consume-2.ensures c.if-consume-2.false (values-met "D" c.consume-3.ensures c.if-consume-3.true values-ret))

pub returns-then-consume-4 : goal.returns-then-consume-4
returns-then-consume-4 c = values-unmet "B" c.consume.ensures c.if-consume.false (values-unmet "C" c.consume-2.ensures c.if-consume-2.false (values-unmet "D" c.consume-3.ensures c.if-consume-3.false (values-met "A" c.consume-4.ensures c.if-consume-4.true values-ret)))

pub returns : goal.returns
returns c = values-unmet "B" c.consume.ensures c.if-consume.false (values-unmet "C" c.consume-2.ensures c.if-consume-2.false (values-unmet "D" c.consume-3.ensures c.if-consume-3.false (values-unmet "A" c.consume-4.ensures c.if-consume-4.false values-fail)))
