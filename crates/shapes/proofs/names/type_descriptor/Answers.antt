-- Assumes nothing.
use Rattle.steps.proofs.Laws.{handed, values-expect}
use Rattle.steps.proofs.Leads.{leads-bad, leads-ret, leads-value}
use Rattle.shapes.proofs.Endings.{leads-inner}
use mathlib.Core.Path.{refl}
use Rattle.grammar.specs.Grammar.{rtti_type_descriptor}
use Rattle.shapes.proofs.names.type_descriptor.Goals as goal

pub returns-in_err-expect : goal.returns-in_err-expect
unfolding rtti_type_descriptor
returns-in_err-expect c = leads-inner (leads-bad (values-expect "?" c.expect.ensures) c.in_err-expect.was (handed c.from_residual.ensures))

pub returns : goal.returns
unfolding rtti_type_descriptor
returns c = leads-inner (leads-value (values-expect "?" c.expect.ensures) c.in_ok-expect.was (leads-inner (leads-value c.storage_class.ensures refl leads-ret)))
