-- Assumes nothing.
use Rattle.std.proofs.Common.{refl, arith}
use Rattle.text.proofs.Seq.{wrote-full}
use Rattle.text.proofs.Stores.{wrote-byte, wrote-end}
use Rattle.text.proofs.buffer.Buffer.put.Goals as goal

pub returns-then-self : goal.returns-then-self
returns-then-self c = (wrote-byte _ _ _ c.if-self.true, refl)

pub returns-then-self-2 : goal.returns-then-self-2
returns-then-self-2 c = (wrote-end _ _ _ (omega arith), refl)

pub returns-else-self-2 : goal.returns-else-self-2
returns-else-self-2 c = (wrote-full _ _ _ (omega arith), refl)
