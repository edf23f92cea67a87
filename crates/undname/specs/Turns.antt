-- A turn of the program. Assumes nothing: these are definitions.
use Rattle.std.specs.Prelude.{ℕ, ◌+◌, ◌≤◌, false, ◌≡◌, List, length, take, Option, Some, None, Result, Ok, Err}
use Rattle.std.specs.declared.ops.ControlFlow.{ControlFlow}
use Rattle.std.specs.declared.ops.ControlFlow.TheVariants.{Continue, Break}
use Rattle.lines.specs.declared.Work.{Work}
use Rattle.lines.specs.Output.{Open}
use Rattle.undname.specs.declared.Failed.{Failed}
use Rattle.lines.specs.Steps.{kept_most}

-- the program's buffers of input and output
abbrev pub piece : ℕ
piece = 65536

-- Between two turns nothing waits, and what is kept of the input i is the beginning of a line, unless lines are left for want of room.
pub record Between (i : List ℕ) (w : Work) : Type 0 where
  pub nothing : w.used ≡ 0
  pub within : w.kept ≤ length i
  pub begun : w.full ≡ false → Open (take w.kept i)
  pub small : w.full ≡ false → w.kept ≤ kept_most

-- the bytes read stand after those kept, and the input has not ended where lines are left
abbrev pub Reaches : Result (Option ℕ) Failed → Work → ℕ → Type 0
Reaches (Ok (Some n)) w len = w.kept + n ≤ len
Reaches (Ok None) w len = w.full ≡ false
Reaches (Err _) w len = Unit {0}

-- where all that waits is written, the rest of the work stays
abbrev pub Emptied : Result Work Failed → Work → Type 0
Emptied (Ok v) w = (v.kept ≡ w.kept) × (v.used ≡ 0) × (v.full ≡ w.full)
Emptied (Err _) w = Unit {0}

-- where all is done, nothing is kept and nothing waits
abbrev pub Finished : Work → Type 0
Finished v = (v.kept ≡ 0) × (v.used ≡ 0)

-- what a turn leaves, with the input i: work to go on with; or, where all is done, nothing is kept and nothing waits
abbrev pub Goes : Result (ControlFlow Work Work) Failed → List ℕ → Type 0
Goes (Ok (Continue v)) i = Between i v
Goes (Ok (Break v)) i = Finished v
Goes (Err _) i = Unit {0}
