-- A run over any pieces of input. Assumes nothing: these are definitions, and statements that proofs/Runs.antt proves.
use Rattle.std.specs.Prelude.{ℕ, ◌≡◌, List, [], ◌∷◌, ◌++◌}
use Rattle.lines.specs.Output.{output}
use Rattle.lines.specs.Steps.{Steps}

unfoldable pub joined : List (List ℕ) → List ℕ
joined [] = []
joined (p ∷ ps) = p ++ joined ps

-- The pieces came in, the parts were handed out, and these bytes are kept and wait: it begins with nothing, a step takes
-- one piece more, and all that waits is handed out as one part more.
pub data Ran : List (List ℕ) → List (List ℕ) → List ℕ → List ℕ → Type 0 where
  begun : Ran [] [] [] []
  stepped : {pieces parts : List (List ℕ)} {kept waits came kept' waits' : List ℕ} → Ran pieces parts kept waits → Steps kept waits came kept' waits' → Ran (pieces ++ (came ∷ [])) parts kept' waits'
  handed : {pieces parts : List (List ℕ)} {kept waits : List ℕ} → Ran pieces parts kept waits → Ran pieces (parts ++ (waits ∷ [])) kept []

-- At every moment: what was handed out, what waits, and the output owed for what is kept and whatever follows, are the
-- output of all that came in and whatever follows.
abbrev pub AllOwed : Type 0
AllOwed = (pieces parts : List (List ℕ)) (kept waits more : List ℕ) → Ran pieces parts kept waits → joined parts ++ (waits ++ output (kept ++ more)) ≡ output (joined pieces ++ more)

-- At the end, where the bytes kept and those that wait are these: with waits' handed out as the last part, all that was
-- handed out is the output of all that came in.
abbrev pub AllAnswered : List ℕ → List ℕ → List ℕ → Type 0
AllAnswered kept waits waits' = (pieces parts : List (List ℕ)) → Ran pieces parts kept waits → joined (parts ++ (waits' ∷ [])) ≡ output (joined pieces)
