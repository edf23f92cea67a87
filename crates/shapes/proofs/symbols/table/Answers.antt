-- Assumes nothing.
use Rattle.steps.proofs.Leads.{leads-ret, leads-value}
use mathlib.Core.Path.{refl}
use Rattle.shapes.proofs.symbols.table.Goals as goal

pub returns : goal.returns
returns c = leads-value c.qualifier.ensures refl leads-ret
