-- Assumes nothing.
use native.Mathlib.Omega.{arith}
use Rattle.shapes.proofs.Spellings.{leads-form, start-room}
use Rattle.steps.proofs.Leads.{leads-from, leads-on}
use mathlib.Core.Path.{refl}
use Rattle.shapes.proofs.types.type_shape.Goals as goal

pub pass-requires : goal.pass-requires
pass-requires c = start-room c.args.r.s.now c.args.st.now.at c.args.r.short (omega arith) c.type_start-start.ensures

pub returns : goal.returns
returns c = leads-on (leads-form c.args.sc c.type_start-start.ensures) refl (leads-from c.pass.ensures c.form_shape.ensures)
