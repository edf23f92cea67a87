use Rattle.std.proofs.Common.{◌≡◌, ◌<◌, ◌^◌, ℕ, List}
use Rattle.text.specs.Emit.{Wrote, lit}
use Rattle.text.specs.Letters.{spell}
use Rattle.text.proofs.buffer.Buffer.put_letters.Given as goal

abbrev pub invariant-loop-rest : goal.invariant-loop-rest
invariant-loop-rest l = (l.rest < 2 ^ 64) × (l.self.bytes.ghost_name ≡ l.initial.self.bytes.ghost_name) × ((b' : List ℕ) (o' : ℕ) → Wrote (lit (spell 8 l.rest)) l.self.bytes.now l.self.at b' o' → Wrote (lit (spell 8 l.c)) l.initial.self.bytes.now l.initial.self.at b' o')

abbrev pub decreases-loop-rest : goal.decreases-loop-rest
decreases-loop-rest l = l.rest
