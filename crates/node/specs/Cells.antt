-- A node is twelve cells of the table. Assumes nothing: these are definitions.
use Rattle.std.specs.Prelude.{ℕ, ◌+◌, ◌*◌, ◌-◌, ◌/◌, List, [], ◌∷◌, ◌++◌, length, get_or, take, drop, ltb, eqb, cond}
use Rattle.node.specs.declared.Node.{Node}

-- its kind and its height
abbrev pub KIND : ℕ
KIND = 0

abbrev pub HEIGHT : ℕ
HEIGHT = 1

-- kept for the bytes that it was read from, and 0
abbrev pub FROM : ℕ
FROM = 2

abbrev pub TO : ℕ
TO = 3

-- three references: a node's number and one, 0 for none
abbrev pub A : ℕ
A = 4

abbrev pub B : ℕ
B = 5

abbrev pub C : ℕ
C = 6

-- four numbers
abbrev pub P : ℕ
P = 7

abbrev pub Q : ℕ
Q = 8

abbrev pub R : ℕ
R = 9

abbrev pub S : ℕ
S = 10

-- always 0
abbrev pub LAST : ℕ
LAST = 11

-- how many whole nodes there is room for; a shorter tail is neither read nor written
abbrev pub nodes : List ℕ → ℕ
nodes t = length t / 12

-- cell j of node n; 0 where there is none
unfoldable pub cell_of : List ℕ → ℕ → ℕ → ℕ
cell_of t n j = cond (ltb n (nodes t)) (cond (ltb j 12) (get_or t (n * 12 + j) 0) 0) 0

abbrev pub cells : Node → List ℕ
cells x = x.kind ∷ x.height ∷ 0 ∷ 0 ∷ x.a ∷ x.b ∷ x.c ∷ x.p ∷ x.q ∷ x.r ∷ x.s ∷ 0 ∷ []

-- the table with x as its node n; unchanged where there is no room for it
unfoldable pub stored : List ℕ → ℕ → Node → List ℕ
stored t n x = cond (ltb n (nodes t)) (take (n * 12) t ++ cells x ++ drop (n * 12 + 12) t) t

-- the height of what r names
unfoldable pub height_at : List ℕ → ℕ → ℕ
height_at t r = cond (eqb r 0) 0 (cell_of t (r - 1) HEIGHT)
