-- What refuses a call before anything is read: 7, then 1, then 2. `f` is the flag word, `s` the symbol. Assumes nothing: these are definitions.
use Rattle.std.specs.Prelude.{ℕ, ◌/◌, ◌%◌, ◌^◌, Bool, false, List, leb, eqb, length, Option, None, Some, Result, Ok, Err}
use Rattle.std.specs.List.{position}
use Rattle.scan.specs.Bytes.{pick}
use Rattle.gates.specs.declared.Closed.{Closed}
use Rattle.gates.specs.declared.Closed.TheVariants.{Call, Symbol, High}
use Rattle.scan.specs.Limits.{longest_symbol, deepest_reading}

-- none of `count` bits of the flag word from bit `low` on
abbrev pub lacks : ℕ → ℕ → ℕ → Bool
lacks f low count = eqb (f / 2 ^ low % 2 ^ count) 0

-- the known bits are 1, 2, 5, 6, 7, 9 to 12 and 20 to 24: 0x01F01EE6
unfoldable pub known_flags : ℕ → Bool
known_flags f = pick (lacks f 0 1) (pick (lacks f 3 2) (pick (lacks f 8 1) (pick (lacks f 13 7) (lacks f 25 7) false) false) false) false

-- where the first byte of 128 or more stands
abbrev pub high_at : List ℕ → Option ℕ
high_at s = position (leb 128) s

-- an open gate is Ok
abbrev pub Gate : Type 0
Gate = Result (Unit {0}) Closed

abbrev pub low : Option ℕ → Gate
low None = Ok tt
low (Some at) = Err (High at)

-- what refuses a call before anything is read: 1, 2
unfoldable pub symbol_gate : List ℕ → Gate
symbol_gate s = pick (eqb (length s) 0) (Err Symbol) (pick (leb (length s) longest_symbol) (low (high_at s)) (Err Symbol))

-- and 7 before these
unfoldable pub gate : ℕ → ℕ → List ℕ → Gate
gate f depth s = pick (leb depth deepest_reading) (pick (known_flags f) (symbol_gate s) (Err Call)) (Err Call)
