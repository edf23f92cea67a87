-- Assumes nothing.
use native.Mathlib.Omega.{arith}
use Rattle.steps.proofs.Leads.{leads-from, leads-on}
use Rattle.shapes.proofs.Begun.{leads-name}
use Rattle.shapes.proofs.Bounds.{name-room}
use mathlib.Core.Path.{refl}
use Rattle.shapes.proofs.names.name_shape.Goals as goal

pub pass-requires : goal.pass-requires
pass-requires c = name-room c.args.r.s.now c.args.st.now.at c.args.r.short (omega arith) c.name_start-start.ensures

pub returns : goal.returns
returns c = leads-on (leads-name c.name_start-start.ensures) refl (leads-from c.pass.ensures c.form_shape.ensures)
