-- Assumes nothing.
use native.Mathlib.Omega.{arith}
use Rattle.shapes.proofs.Begun.{leads-parse}
use Rattle.shapes.proofs.Bounds.{parse-room}
use Rattle.shapes.proofs.symbols.parse_form.Goals as goal

pub pass-requires : goal.pass-requires
pass-requires c = parse-room c.args.r.s.now c.args.st.now.at c.args.r.short (omega arith) c.parse_start-start.ensures

pub returns : goal.returns
returns c = rw c.pass.ensures (leads-parse c.parse_start-start.ensures)
