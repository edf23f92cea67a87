-- What the program writes, of what it reads. Assumes nothing: these are definitions.
use Rattle.std.specs.Prelude.{ℕ, suc, ◌≡◌, List, [], ◌∷◌, ◌++◌, eqb, length}
use Rattle.scan.specs.Bytes.{pick}
use Rattle.answer_line.specs.Line.{line_of}

-- where the first newline stands; the length where there is none
unfoldable pub newline_at : List ℕ → ℕ
newline_at [] = 0
newline_at (c ∷ s) = pick (eqb c 10) 0 (suc (newline_at s))

-- no newline
abbrev pub Open : List ℕ → Type 0
Open s = newline_at s ≡ length s

-- the lines of an input whose first line began with `line`: a newline ends a line, and a rest that is not empty is a line
unfoldable pub lines_from : List ℕ → List ℕ → List (List ℕ)
lines_from line [] = pick (eqb (length line) 0) [] (line ∷ [])
lines_from line (c ∷ s) = pick (eqb c 10) (line ∷ lines_from [] s) (lines_from (line ++ (c ∷ [])) s)

unfoldable pub answers_to : List (List ℕ) → List ℕ
answers_to [] = []
answers_to (l ∷ ls) = line_of l ++ answers_to ls

-- all that is written, of all that is read
unfoldable pub output : List ℕ → List ℕ
output s = answers_to (lines_from [] s)
