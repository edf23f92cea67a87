-- Assumes nothing.
use Rattle.steps.proofs.Laws.{handed, values-expect}
use Rattle.steps.proofs.Leads.{leads-bad, leads-ret, leads-value}
use Rattle.grammar.specs.Grammar.{symbol_type_of}
use Rattle.shapes.proofs.symbols.thunk.Goals as goal

pub returns-in_err-expect : goal.returns-in_err-expect
unfolding symbol_type_of
returns-in_err-expect c = leads-bad (values-expect "B" c.expect.ensures) c.in_err-expect.was (handed c.from_residual.ensures)

pub returns-in_err-offset : goal.returns-in_err-offset
unfolding symbol_type_of
returns-in_err-offset c = leads-value (values-expect "B" c.expect.ensures) c.in_ok-expect.was (leads-bad c.number.ensures c.in_err-offset.was (handed c.from_residual-in_err-offset.ensures))

pub returns-in_err-expect-2 : goal.returns-in_err-expect-2
unfolding symbol_type_of
returns-in_err-expect-2 c = leads-value (values-expect "B" c.expect.ensures) c.in_ok-expect.was (leads-value c.number.ensures c.in_ok-offset.was (leads-bad (values-expect "A" c.expect-2.ensures) c.in_err-expect-2.was (handed c.from_residual-in_err-expect-2.ensures)))

pub returns-in_err-convention : goal.returns-in_err-convention
unfolding symbol_type_of
returns-in_err-convention c = leads-value (values-expect "B" c.expect.ensures) c.in_ok-expect.was (leads-value c.number.ensures c.in_ok-offset.was (leads-value (values-expect "A" c.expect-2.ensures) c.in_ok-expect-2.was (leads-bad c.calling_conv.ensures c.in_err-convention.was (handed c.from_residual-in_err-convention.ensures))))

pub returns : goal.returns
unfolding symbol_type_of
returns c = leads-value (values-expect "B" c.expect.ensures) c.in_ok-expect.was (leads-value c.number.ensures c.in_ok-offset.was (leads-value (values-expect "A" c.expect-2.ensures) c.in_ok-expect-2.was (leads-value c.calling_conv.ensures c.in_ok-convention.was leads-ret)))
