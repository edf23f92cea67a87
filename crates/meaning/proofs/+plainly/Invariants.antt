use Prim.Native.Nat.{◌+◌, ◌*◌}
use Rattle.meaning.proofs.+plainly.Given as goal

abbrev pub decreases-plain : goal.decreases-plain
decreases-plain l = 2 * l.r

abbrev pub decreases-plain_kids : goal.decreases-plain_kids
decreases-plain_kids l = 2 * l.i + 1

abbrev pub decreases-plain_first : goal.decreases-plain_first
decreases-plain_first l = 2 * l.i + 1
