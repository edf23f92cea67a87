-- The turns of the program. Assumes nothing.
use Rattle.std.proofs.Common.{ℕ, List, false, refl, arith}
use Rattle.lines.specs.Output.{newline_at}
use Rattle.undname.specs.Turns.{Between}

-- before the first turn nothing is kept, and nothing waits
pub begin : (i : List ℕ) → Between i (record { kept = 0; used = 0; full = false })
unfolding newline_at
begin i = record { nothing = refl; within = omega arith; begun = λ f. refl; small = λ f. omega arith }
