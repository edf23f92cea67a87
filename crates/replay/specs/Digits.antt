-- Numbers in decimal digits. Assumes nothing: these are definitions.
use Rattle.std.specs.Prelude.{ℕ, ◌+◌, ◌*◌, ◌-◌, ◌&&◌, leb, List, cond, fold}

-- a digit's value, and 0 for any other byte
abbrev pub digit : ℕ → ℕ
digit c = cond (leb 48 c && leb c 57) (c - 48) 0

-- the number that digits stand for
abbrev pub number_of : List ℕ → ℕ
number_of s = fold (λ n c. n * 10 + digit c) 0 s
