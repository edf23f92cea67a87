-- Assumes nothing.
use native.Mathlib.Omega.{arith}
use Rattle.steps.proofs.Says.{refers, reference-room}
use Rattle.steps.proofs.reader.Reader.reference.Goals as goal

pub pass-requires : goal.pass-requires
pass-requires c = reference-room c.args.self.s.now c.args.st.now.at c.args.self.short (omega arith) c.type_reference.ensures c.in_ok-i.was

pub returns : goal.returns
returns c = refers c.type_reference.ensures c.in_ok-i.was (rw c.pass.ensures)
