-- The limits of a reading, each in one place. Assumes nothing: these are definitions.
use Rattle.std.specs.Prelude.{ℕ, ◌*◌, ◌≤◌, List, length}

-- the longest symbol that is read
abbrev pub longest_symbol : ℕ
longest_symbol = 4096

abbrev pub Short : List ℕ → Type 0
Short s = length s ≤ longest_symbol

-- the deepest reading
abbrev pub deepest_reading : ℕ
deepest_reading = 200

-- the nodes that a reading may count: no symbol asks for more
abbrev pub most_nodes : ℕ
most_nodes = 2 * longest_symbol
