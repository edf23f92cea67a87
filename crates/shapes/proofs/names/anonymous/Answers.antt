-- Assumes nothing.
use Rattle.shapes.proofs.Endings.{alike-unstored}
use Rattle.steps.proofs.Laws.{handed, values-expect}
use Rattle.steps.proofs.Leads.{leads-alike, leads-bad, leads-ret, leads-value}
use mathlib.Core.Path.{refl}
use Rattle.grammar.specs.Grammar.{nested_of}
use Rattle.shapes.proofs.names.anonymous.Goals as goal

pub returns-in_err-expect : goal.returns-in_err-expect
unfolding nested_of
returns-in_err-expect c = leads-bad (values-expect "@" c.expect.ensures) c.in_err-expect.was (handed c.from_residual.ensures)

pub returns : goal.returns
unfolding nested_of
returns c = leads-value (values-expect "@" c.expect.ensures) c.in_ok-expect.was (leads-alike (alike-unstored refl) leads-ret)
