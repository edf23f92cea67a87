-- Assumes nothing.
use Rattle.steps.proofs.Laws.{handed, values-expect}
use Rattle.steps.proofs.Leads.{leads-bad, leads-ret, leads-value}
use Rattle.grammar.specs.Grammar.{form_type}
use Rattle.shapes.proofs.types.member_pointer.Goals as goal

pub returns-in_err-expect : goal.returns-in_err-expect
unfolding form_type
returns-in_err-expect c = leads-bad (values-expect "?" c.expect.ensures) c.in_err-expect.was (handed c.from_residual.ensures)

pub returns : goal.returns
unfolding form_type
returns c = leads-value (values-expect "?" c.expect.ensures) c.in_ok-expect.was leads-ret
