-- Assumes nothing.
use native.Mathlib.Omega.{arith}
use Rattle.steps.proofs.Says.{stands-room}
use Rattle.steps.proofs.reader.Reader.consume.Goals as goal

pub pass-requires : goal.pass-requires
pass-requires c = stands-room c.args.self.s.now c.args.literal.now c.args.st.now.at c.args.self.short (omega arith) c.consume-there.ensures c.if-there.true
