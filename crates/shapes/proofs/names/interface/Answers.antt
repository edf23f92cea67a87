-- Assumes nothing.
use Rattle.shapes.proofs.Endings.{alike-stored}
use Rattle.steps.proofs.Laws.{handed, values-expect}
use Rattle.steps.proofs.Leads.{leads-alike, leads-bad, leads-here, leads-ret, leads-value}
use Rattle.grammar.specs.Grammar.{nested_of}
use Rattle.shapes.proofs.names.interface.Goals as goal

pub returns-in_err-n : goal.returns-in_err-n
unfolding nested_of
returns-in_err-n c = leads-here (leads-bad c.string.ensures c.in_err-n.was (handed c.from_residual.ensures))

pub returns-in_err-expect : goal.returns-in_err-expect
unfolding nested_of
returns-in_err-expect c = leads-here (leads-value c.string.ensures c.in_ok-n.was (leads-bad (values-expect "@" c.expect.ensures) c.in_err-expect.was (handed c.from_residual-in_err-expect.ensures)))

pub returns : goal.returns
unfolding nested_of
returns c = rw (c.saturating_sub.ensures, c.from-from.ensures) (leads-here (leads-value c.string.ensures c.in_ok-n.was (leads-value (values-expect "@" c.expect.ensures) c.in_ok-expect.was (leads-alike alike-stored leads-ret))))
