-- Assumes nothing.
use Rattle.shapes.proofs.Endings.{alike-stored}
use Rattle.steps.proofs.Laws.{handed}
use Rattle.steps.proofs.Leads.{leads-alike, leads-bad, leads-here, leads-ret, leads-value}
use Rattle.grammar.specs.Grammar.{plain_name}
use Rattle.shapes.proofs.names.plain_shape.Goals as goal

pub returns-in_err-n : goal.returns-in_err-n
unfolding plain_name
returns-in_err-n c = leads-here (leads-bad c.string.ensures c.in_err-n.was (handed c.from_residual.ensures))

pub returns : goal.returns
unfolding plain_name
returns c = rw (c.saturating_sub.ensures, c.from-from.ensures) (leads-here (leads-value c.string.ensures c.in_ok-n.was (leads-alike alike-stored leads-ret)))
