-- A well-formed table: what a reading can leave. Assumes nothing: these are definitions.
use Rattle.std.specs.Prelude.{ℕ, zero, suc, ◌+◌, ◌-◌, ◌/◌, ◌%◌, max, Bool, true, false, cond, List, leb, eqb}
use Rattle.node.specs.Cells as cells
use Rattle.node.specs.Cells.{cell_of, height_at}
use Rattle.node.specs.Kind.{is_place}
use Rattle.form.specs.Kinds.{nothing, shape_of}

-- the class is one of the mask's
unfoldable pub fits : ℕ → ℕ → Bool
fits mask class = cond (eqb class 0) false (eqb (mask / class % 2) 1)

-- r names, to node n, an earlier node that fits, or nothing where that fits
unfoldable pub ref_ok : List ℕ → ℕ → ℕ → ℕ → Bool
ref_ok t n mask r = cond (eqb r 0) (fits mask nothing) (cond (leb r n) (fits mask (shape_of (cell_of t (r - 1) cells.KIND) 0)) false)

unfoldable pub height_ok : List ℕ → ℕ → Bool
height_ok t n =
    eqb (cell_of t n cells.HEIGHT)
    (max (max (height_at t (cell_of t n cells.A)) (height_at t (cell_of t n cells.B))) (height_at t (cell_of t n cells.C)) + cond (is_place (cell_of t n cells.KIND)) 0 1)

unfoldable pub number_ok : List ℕ → ℕ → ℕ → Bool
number_ok t n j = leb (cell_of t n (cells.P + j)) (shape_of (cell_of t n cells.KIND) (4 + j))

unfoldable pub numbers_ok : List ℕ → ℕ → Bool
numbers_ok t n = cond (number_ok t n 0) (cond (number_ok t n 1) (cond (number_ok t n 2) (number_ok t n 3) false) false) false

-- bytes of a symbol of len bytes
unfoldable pub range_ok : List ℕ → ℕ → ℕ → Bool
range_ok t len n = cond (eqb (shape_of (cell_of t n cells.KIND) 8) 0) true (leb (cell_of t n cells.P + cell_of t n cells.Q) len)

-- cells that no kind uses
unfoldable pub rest_ok : List ℕ → ℕ → Bool
rest_ok t n = cond (eqb (cell_of t n cells.FROM) 0) (cond (eqb (cell_of t n cells.TO) 0) (eqb (cell_of t n cells.LAST) 0) false) false

unfoldable pub refs_ok : List ℕ → ℕ → Bool
refs_ok t n =
    cond (ref_ok t n (shape_of (cell_of t n cells.KIND) 1) (cell_of t n cells.A))
    (cond (ref_ok t n (shape_of (cell_of t n cells.KIND) 2) (cell_of t n cells.B)) (ref_ok t n (shape_of (cell_of t n cells.KIND) 3) (cell_of t n cells.C)) false) false

unfoldable pub node_ok : List ℕ → ℕ → ℕ → Bool
node_ok t len n =
    cond (eqb (shape_of (cell_of t n cells.KIND) 0) 0) false
    (cond (refs_ok t n) (cond (numbers_ok t n) (cond (range_ok t len n) (cond (rest_ok t n) (height_ok t n) false) false) false) false)

-- each of the first k nodes is well formed
unfoldable pub well_formed : List ℕ → ℕ → ℕ → Bool
well_formed t len zero = true
well_formed t len (suc k) = cond (well_formed t len k) (node_ok t len k) false
