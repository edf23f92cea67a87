-- Assumes nothing.
use Rattle.std.specs.Prelude.{Ok}
use mathlib.Core.Path.{ap}
use native.Mathlib.Omega.{arith}
use Rattle.shapes.proofs.Spellings.{head-room, head_small, leads-letter}
use Rattle.steps.proofs.Leads.{leads-fail, leads-from, leads-on}
use Rattle.shapes.proofs.types.plain_shape.Goals as goal

pub pass-requires : goal.pass-requires
pass-requires c = head-room c.args.r.s.now c.args.st.now.at c.args.r.short (omega arith) c.type_letter-head.ensures

pub letter_shape-requires : goal.letter_shape-requires
letter_shape-requires c = head_small _ c.type_letter-head.ensures c.in-Some.is

pub returns-in-Some : goal.returns-in-Some
returns-in-Some c = leads-on (leads-letter c.args.sc c.type_letter-head.ensures) (ap Ok c.in-Some.is) (leads-from c.pass.ensures c.letter_shape.ensures)

pub returns-in-None : goal.returns-in-None
returns-in-None c = leads-on (leads-letter c.args.sc c.type_letter-head.ensures) (ap Ok c.in-None.is) (leads-from c.pass.ensures leads-fail)
