-- A word as numbers of eight letters each, the first letter lowest. Assumes nothing: these are definitions.
use Rattle.std.specs.Prelude.{ℕ, zero, suc, ◌+◌, ◌*◌, ◌/◌, ◌%◌, List, [], ◌∷◌, take, drop, ◌==◌}
use Rattle.scan.specs.Bytes.{pick}
use Rattle.text.specs.Words.{word}

-- at most k letters of c
unfoldable pub spell : ℕ → ℕ → List ℕ
spell zero c = []
spell (suc k) c = pick (c == 0) [] ((c % 256) ∷ spell k (c / 256))

abbrev packed : List ℕ → ℕ
packed [] = 0
packed (x ∷ xs) = x + 256 * packed xs

-- the letters of word w from 8k on, as a number
unfoldable pub piece : ℕ → ℕ → ℕ
piece k w = packed (take 8 (drop (8 * k) (word w)))
