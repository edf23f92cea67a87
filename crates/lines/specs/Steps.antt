-- What a step promises. Assumes nothing: these are definitions.
use Rattle.std.specs.Prelude.{ℕ, ◌+◌, ◌≤◌, ◌<◌, min, Bool, true, false, ◌≡◌, List, ◌++◌, length, take, drop}
use Rattle.lines.specs.declared.Work.{Work}
use Rattle.lines.specs.Output.{Open, output}
use Rattle.scan.specs.Limits.{longest_symbol}
use Rattle.answer_line.specs.Line.{longest_answer}

-- so many bytes of a line are kept from one read to the next: enough to refuse it for its length
abbrev pub kept_most : ℕ
kept_most = longest_symbol + 1

-- A step over bytes: some are kept of the input, some of the output wait, some came; then others are kept and wait.
-- What waits, and then what is owed for what is kept and whatever follows it, is what it was.
pub record Steps (kept waits came kept' waits' : List ℕ) : Type 0 where
  pub owes : (more : List ℕ) → waits' ++ output (kept' ++ more) ≡ waits ++ output ((kept ++ came) ++ more)

-- After a step, with the input i and the output b.
pub record Ready (i b : List ℕ) (w : Work) : Type 0 where
  pub within : w.kept ≤ length i
  pub fits : w.used ≤ length b
  -- where it did not stop for want of room, the beginning of a line is kept
  pub begun : w.full ≡ false → Open (take w.kept i)
  pub small : w.full ≡ false → w.kept ≤ kept_most
  -- else something waits, and makes room when it is handed out
  pub waits : w.full ≡ true → 0 < w.used

-- The lines of i are answered up to `at`: the buffer b, of which `used` bytes waited, is b' with used'.
pub record Goes (i b : List ℕ) (used : ℕ) (b' : List ℕ) (at used' : ℕ) : Type 0 where
  pub within : at ≤ length i
  pub fits : used' ≤ length b
  pub owes : (more : List ℕ) → take used' b' ++ output (drop at i ++ more) ≡ take used b ++ output (i ++ more)
  -- no line is left where there is room for one
  pub ends : used' + longest_answer ≤ length b → Open (drop at i)

-- Of a rest so many bytes are kept: all where there is no room, else at most these.
pub record Share (rest : ℕ) (full : Bool) (r : ℕ) : Type 0 where
  pub within : r ≤ rest
  pub whole : full ≡ true → r ≡ rest
  pub short : full ≡ false → r ≡ min rest kept_most
