-- How a reading is handed out. Assumes nothing: these are definitions.
use Rattle.std.specs.Prelude.{ℕ, List, length, set, ltb, Result, Ok, Err}
use Rattle.scan.specs.Bytes.{pick}
use Rattle.reader.specs.declared.Unread.{Unread}
use Rattle.reader.specs.declared.Outcome.{Outcome}
use Rattle.reader.specs.Whole.{unread_number}

-- 0 for an answer
abbrev pub number_of : Result ℕ Unread → ℕ
number_of (Ok n) = 0
number_of (Err why) = unread_number why

-- number, place, depth and nodes in the first four places, where there are four
abbrev pub reported : Outcome → List ℕ → List ℕ
reported r out =
    pick (ltb (length out) 4) out (set (set (set (set out 0 (number_of r.answer)) 1 r.state.at) 2 r.state.deep) 3 r.state.used)
