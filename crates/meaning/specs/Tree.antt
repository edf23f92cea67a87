-- What a node means: a tree that shows no node's number and no place in the symbol. Equal trees are equal values of the crate's types.
-- Assumes nothing: these are definitions.
use Rattle.std.specs.Prelude.{ℕ, zero, suc, ◌+◌, Bool, true, false, cond, ◌&&◌, List, [], ◌∷◌, eqb, leb, length, take, drop, Ok, Err}
use Rattle.node.specs.Cells as cells
use Rattle.node.specs.Cells.{cell_of}
use Rattle.node.specs.Kind.{kind_number, Md5, NonTemplate, AsInterface, AnonymousId, ConstantString}
use Rattle.strings.specs.Encoded.{character}
use Rattle.scan.specs.Cursor.{Leaf}
use Rattle.std.specs.Str.{bytes_eq}
use Rattle.meaning.specs.declared.Content.{Content}
use Rattle.meaning.specs.declared.Content.TheVariants.{Numbers, Bytes, Encoded}
use Rattle.meaning.specs.Below.{below}

-- the kind, the numbers and the bytes of a node, and what its three references mean
pub data Tree : Type 0 where
  none : Tree
  node : ℕ → List ℕ → List ℕ → Tree → Tree → Tree → Tree

-- the n bytes of the symbol from s on; none where the symbol has them not all
unfoldable pub part : List ℕ → ℕ → ℕ → List ℕ
part sym s n = cond (leb (s + n) (length sym)) (take n (drop s sym)) []

-- the bytes that an encoded string's characters stand for, up to the first that stands for none
abbrev pub onward : Leaf → (ℕ → ℕ → List ℕ) → List ℕ
onward (Ok (v, t)) f = f v t
onward (Err t) f = []

unfoldable pub decoded_in : ℕ → List ℕ → List ℕ
decoded_in zero r = []
decoded_in (suc k) r = onward (character r) (λ v t. v ∷ decoded_in k (drop t r))

unfoldable pub decoded : List ℕ → List ℕ
decoded r = decoded_in (length r) r

-- what a kind's first two numbers are: 1 a start and a length of bytes, 2 of an encoded string, 0 numbers
unfoldable pub content_of : ℕ → ℕ
content_of k =
    cond (eqb k (kind_number Md5)) 1
    (cond (eqb k (kind_number NonTemplate)) 1
    (cond (eqb k (kind_number AsInterface)) 1
    (cond (eqb k (kind_number AnonymousId)) 1
    (cond (eqb k (kind_number ConstantString)) 2 0))))

-- the same, as the code has it
abbrev pub content_number : Content → ℕ
content_number Numbers = 0
content_number Bytes = 1
content_number Encoded = 2

-- the first or second number of a kind; 0 for a place in the symbol, which does not show
abbrev pub shown : ℕ → ℕ → ℕ
shown k n = cond (eqb (content_of k) 0) n 0

-- p, q, r and s
unfoldable pub numbers_of : List ℕ → ℕ → List ℕ
numbers_of t n = shown (cell_of t n cells.KIND) (cell_of t n cells.P) ∷ shown (cell_of t n cells.KIND) (cell_of t n cells.Q) ∷ cell_of t n cells.R ∷ cell_of t n cells.S ∷ []

unfoldable pub bytes_of : List ℕ → List ℕ → ℕ → List ℕ
bytes_of t sym n =
    let bytes = part sym (cell_of t n cells.P) (cell_of t n cells.Q) in
    cond (eqb (content_of (cell_of t n cells.KIND)) 0) [] (cond (eqb (content_of (cell_of t n cells.KIND)) 1) bytes (decoded bytes))

unfoldable pub tree : List ℕ → List ℕ → (ℕ → Tree) → ℕ → Tree
tree t sym kids n = node (cell_of t n cells.KIND) (numbers_of t n) (bytes_of t sym n) (kids (cell_of t n cells.A)) (kids (cell_of t n cells.B)) (kids (cell_of t n cells.C))

-- what the reference r means to node n: a node sees only what stands before it
unfoldable pub tree_at : List ℕ → List ℕ → ℕ → ℕ → Tree
tree_at t sym n r = below (tree t sym) none n r

-- what the reference r means
unfoldable pub tree_of : List ℕ → List ℕ → ℕ → Tree
tree_of t sym r = tree_at t sym r r

-- what a node past the table's room means: all its cells are 0
unfoldable pub blank_tree : Tree
blank_tree = node 0 (0 ∷ 0 ∷ 0 ∷ 0 ∷ []) [] none none none

-- the reference in cell j of node n, 0 where it names no earlier node
unfoldable pub kid_of : List ℕ → ℕ → ℕ → ℕ
kid_of t n j = cond (leb (cell_of t n j) n) (cell_of t n j) 0

-- the same, told by the cells of node n
abbrev pub is_blank : List ℕ → ℕ → Bool
is_blank t n =
    eqb (cell_of t n cells.KIND + (cell_of t n cells.P + cell_of t n cells.Q + cell_of t n cells.R + cell_of t n cells.S)) 0
    && (eqb (kid_of t n cells.A) 0 && (eqb (kid_of t n cells.B) 0 && eqb (kid_of t n cells.C) 0))

unfoldable pub eq_list : List ℕ → List ℕ → Bool
eq_list = bytes_eq

unfoldable pub eq_tree : Tree → Tree → Bool
eq_tree none none = true
eq_tree none (node k x s a b c) = false
eq_tree (node k x s a b c) none = false
eq_tree (node k x s a b c) (node l y u d e f) =
    (eqb k l && (eq_list x y && eq_list s u)) && (eq_tree a d && (eq_tree b e && eq_tree c f))

-- nodes i and j, without what they refer to
unfoldable pub eq_own : List ℕ → List ℕ → ℕ → ℕ → Bool
eq_own t sym i j = eqb (cell_of t i cells.KIND) (cell_of t j cells.KIND) && (eq_list (numbers_of t i) (numbers_of t j) && eq_list (bytes_of t sym i) (bytes_of t sym j))

-- what the first two numbers of nodes i and j say, where both are of one kind
unfoldable pub eq_content : List ℕ → List ℕ → ℕ → ℕ → Bool
eq_content t sym i j =
    cond (eqb (content_of (cell_of t i cells.KIND)) 0) (eqb (cell_of t i cells.P) (cell_of t j cells.P) && eqb (cell_of t i cells.Q) (cell_of t j cells.Q))
    (eq_list (bytes_of t sym i) (bytes_of t sym j))

-- what both hold, and their second and third references
abbrev pub eq_but_first : List ℕ → List ℕ → ℕ → ℕ → Bool
eq_but_first t sym i j =
    eq_own t sym i j
    && (eq_tree (tree_of t sym (kid_of t i cells.B)) (tree_of t sym (kid_of t j cells.B)) && eq_tree (tree_of t sym (kid_of t i cells.C)) (tree_of t sym (kid_of t j cells.C)))

-- told by cells alone: one kind and the same numbers, and the same references
abbrev pub eq_numbers : List ℕ → ℕ → ℕ → Bool
eq_numbers t i j =
    eqb (cell_of t i cells.KIND) (cell_of t j cells.KIND)
    && (eqb (cell_of t i cells.P) (cell_of t j cells.P)
    && (eqb (cell_of t i cells.Q) (cell_of t j cells.Q)
    && (eqb (cell_of t i cells.R) (cell_of t j cells.R) && eqb (cell_of t i cells.S) (cell_of t j cells.S))))

abbrev pub eq_kids : List ℕ → ℕ → ℕ → Bool
eq_kids t i j =
    eqb (kid_of t i cells.A) (kid_of t j cells.A) && (eqb (kid_of t i cells.B) (kid_of t j cells.B) && eqb (kid_of t i cells.C) (kid_of t j cells.C))
