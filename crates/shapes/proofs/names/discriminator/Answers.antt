-- Assumes nothing.
use Rattle.shapes.proofs.Endings.{alike-unstored}
use Rattle.steps.proofs.Laws.{handed}
use Rattle.steps.proofs.Leads.{leads-alike, leads-bad, leads-ret, leads-value}
use mathlib.Core.Path.{refl}
use Rattle.grammar.specs.Grammar.{nested_of}
use Rattle.shapes.proofs.names.discriminator.Goals as goal

pub returns-in_err-n : goal.returns-in_err-n
unfolding nested_of
returns-in_err-n c = leads-bad c.number.ensures c.in_err-n.was (handed c.from_residual.ensures)

pub returns : goal.returns
unfolding nested_of
returns c = leads-value c.number.ensures c.in_ok-n.was (leads-alike (alike-unstored refl) leads-ret)
