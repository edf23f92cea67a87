-- Lists of nodes that are formed: each node by those that stand before it. Their cells are a well-formed table.
--     Known         a reference's class fits a mask, and its height is known; nodes that are added change neither
--     NodeOk        a node is formed, over the nodes before it
--     well-formed   a list of formed nodes is a well-formed table, whatever cells stand behind it
--     ids-long      and every id in it has a digit
--     never-idless  and a name that may be stored is no namespace without an id
-- Assumes nothing.
use Prim.Native.Nat.{ℕ, zero, suc, ◌+◌, ◌-◌, ◌*◌, ◌/◌, ◌%◌, ◌<◌, ◌≤◌, max}
use mathlib.Core.Path.{◌≡◌, refl, sym, ap, ◌∙◌}
use mathlib.Core.List.{List, [], ◌∷◌, ◌++◌, append-nil}
use mathlib.Core.Bool.{Bool, true, false, cond}
use native.Mathlib.Omega.{arith}
use native.Mathlib.Nat.{zero-add, add-zero}
use native.Mathlib.Numerals.{add-one}
use native.Mathlib.Decide.{dec_lt}
use lib.ListN.{length, get_or, length-append, get_or-append}
use lib.Seq.{get_or-append-add, append_snoc}
use lib.Dec.{ltb, leb, eqb}
use borrow.Author.Tests.{eqb-true, lt-ltb, le-ltb, le-leb, eq-eqb, ne_eqb}
use Rattle.node.specs.Cells as table
use Rattle.node.specs.Kind.{kind_number, AnonymousId, Anonymous}
use Rattle.form.specs.Kinds.{nothing, plain, scoped, shapes, shape_of}
use Rattle.form.specs.Form.{fits, ref_ok, refs_ok, number_ok, numbers_ok, range_ok, rest_ok, height_ok, node_ok, well_formed}
use Rattle.form.proofs.Formed.{formed-more}
use Rattle.scan.specs.Bytes.{pick}
use Rattle.grammar.specs.Counts.{Node, height_of, tallest, rises}
use Rattle.grammar.specs.Table.{laid, cells_of}
use Rattle.grammar.proofs.Funded.{true-false}
use Rattle.grammar.proofs.Bounds.{both}

-- the kind of a node, 0 where there is none; and the class of what a reference names: none fits where there is no such node
abbrev pub kind_at : List Node → ℕ → ℕ
kind_at [] i = 0
kind_at (n ∷ ns) zero = n.kind
kind_at (n ∷ ns) (suc i) = kind_at ns i

abbrev pub class_at : List Node → ℕ → ℕ
class_at ns zero = nothing
class_at ns (suc i) = shape_of (kind_at ns i) 0

height-none : (ns : List Node) → height_of ns 0 ≡ 0
height-none [] = refl
height-none (n ∷ ns) = refl

-- more nodes change nothing of those that are there
kind-later : (ns more : List Node) (i : ℕ) → i < length ns → kind_at (ns ++ more) i ≡ kind_at ns i
kind-later [] more i h = absurd (omega arith)
kind-later (n ∷ ns) more zero h = refl
kind-later (n ∷ ns) more (suc i) h = kind-later ns more i (omega arith)

class-later : (ns more : List Node) (r : ℕ) → r ≤ length ns → class_at (ns ++ more) r ≡ class_at ns r
class-later ns more zero h = refl
class-later ns more (suc i) h = ap (λ (k : ℕ). shape_of k 0) (kind-later ns more i h)

height-later : (ns more : List Node) (r : ℕ) → r ≤ length ns → height_of (ns ++ more) r ≡ height_of ns r
height-later [] [] r h = refl
height-later [] (m ∷ more) zero h = refl
height-later [] (m ∷ more) (suc r) h = absurd (omega arith)
height-later (n ∷ ns) more zero h = refl
height-later (n ∷ ns) more (suc zero) h = refl
height-later (n ∷ ns) more (suc (suc r)) h = height-later ns more (suc r) (omega arith)

-- what fits anywhere is there
fits-none : (mask : ℕ) → fits mask (shape_of 0 0) ≡ true → ⊥
unfolding fits shape_of
fits-none mask e = true-false (sym e)

class-inside : (mask : ℕ) (ns : List Node) (r : ℕ) → fits mask (class_at ns r) ≡ true → r ≤ length ns
class-inside mask ns zero e = omega arith
class-inside mask [] (suc i) e = absurd (fits-none mask e)
class-inside mask (n ∷ ns) (suc zero) e = omega arith
class-inside mask (n ∷ ns) (suc (suc i)) e = omega (arith, class-inside mask ns (suc i) e)

-- a reference whose class fits, and its height
pub record Known (mask : ℕ) (ns : List Node) (r h : ℕ) : Type 0 where
  pub fit : fits mask (class_at ns r) ≡ true
  pub high : height_of ns r ≡ h

pub known-later : {mask r h : ℕ} (ns more : List Node) → Known mask ns r h → Known mask (ns ++ more) r h
known-later {mask} {r} ns more k =
    let i : r ≤ length ns = class-inside mask ns r k.fit in
    record { fit = rw (class-later ns more r i) k.fit; high = height-later ns more r i ∙ k.high }

-- masks: the class is one of the mask's (as `fits`, to be computed), and each class of one mask is one of another's
abbrev pub has : ℕ → ℕ → Bool
has mask class = cond (eqb class 0) false (eqb (mask / class % 2) 1)

abbrev classes : List ℕ
classes = 0 ∷ 1 ∷ 2 ∷ 4 ∷ 8 ∷ 16 ∷ 32 ∷ 64 ∷ 128 ∷ 256 ∷ 512 ∷ 1024 ∷ 2048 ∷ 4096 ∷ 8192 ∷ 16384 ∷ 32768 ∷ []

abbrev listed : ℕ → List ℕ → Bool
listed x [] = false
listed x (c ∷ cs) = pick (eqb x c) true (listed x cs)

abbrev all_within : ℕ → ℕ → List ℕ → Bool
all_within mask more [] = true
all_within mask more (c ∷ cs) = pick (pick (has mask c) (has more c) true) (all_within mask more cs) false

abbrev pub within : ℕ → ℕ → Bool
within mask more = all_within mask more classes

within_step : (mask more c : ℕ) (t : Bool) → pick (pick (has mask c) (has more c) true) t false ≡ true → (t ≡ true) × (fits mask c ≡ true → fits more c ≡ true)
unfolding fits
within_step mask more c t e = go (has mask c) (has more c) e
  where
    go : (a b : Bool) → pick (pick a b true) t false ≡ true → (t ≡ true) × (a ≡ true → b ≡ true)
    go true true e = (e, (λ h. refl))
    go true false e = true-false (sym e)
    go false b e = (e, (λ h. true-false (sym h)))

within-listed : (mask more x : ℕ) (cs : List ℕ) → all_within mask more cs ≡ true → listed x cs ≡ true → fits mask x ≡ true → fits more x ≡ true
within-listed mask more x [] e l f = true-false (sym l)
within-listed mask more x (c ∷ cs) e l f =
    let s = within_step mask more c (all_within mask more cs) e in
    go (eqb x c) refl s.1 (λ l. within-listed mask more x cs s.0 l f)
  where
    go : (b : Bool) → eqb x c ≡ b → (fits mask c ≡ true → fits more c ≡ true) → (listed x cs ≡ true → fits more x ≡ true) → fits more x ≡ true
    go true q s k = let z : x ≡ c = eqb-true x c q in rw z (s (rw z at f))
    go false q s k = k (sym (rw q) ∙ l)

-- the class of every kind is listed
abbrev all_listed : List (List ℕ) → Bool
all_listed [] = true
all_listed (row ∷ rows) = pick (listed (get_or row 0 0) classes) (all_listed rows) false

rows-listed : (rows : List (List ℕ)) → all_listed rows ≡ true → (k : ℕ) → listed (get_or (get_or rows k []) 0 0) classes ≡ true
rows-listed [] e k = refl
rows-listed (row ∷ rows) e zero = (both (listed (get_or row 0 0) classes) (all_listed rows) e).0
rows-listed (row ∷ rows) e (suc k) = rows-listed rows (both (listed (get_or row 0 0) classes) (all_listed rows) e).1 k

shape-listed : (kind : ℕ) → listed (shape_of kind 0) classes ≡ true
unfolding shape_of
shape-listed kind = rows-listed shapes refl kind

class-listed : (ns : List Node) (r : ℕ) → listed (class_at ns r) classes ≡ true
class-listed ns zero = refl
class-listed ns (suc i) = shape-listed (kind_at ns i)

pub wider : {mask : ℕ} {ns : List Node} {r h : ℕ} (more : ℕ) → Known mask ns r h → within mask more ≡ true → Known more ns r h
wider {mask} {ns} {r} more k e = record { fit = within-listed mask more (class_at ns r) classes e (class-listed ns r) k.fit; high = k.high }

pub known-none : {mask : ℕ} (ns : List Node) → has mask nothing ≡ true → Known mask ns 0 0
unfolding fits
known-none ns e = record { fit = e; high = height-none ns }

-- a kind's row of the shapes: what its references may be, the largest of its numbers, whether the first two are bytes of the symbol
abbrev pub row_of : ℕ → List ℕ
row_of kind = get_or shapes kind []

abbrev pub masks_of : List ℕ → List ℕ
masks_of row = get_or row 1 0 ∷ get_or row 2 0 ∷ get_or row 3 0 ∷ []

abbrev bounds_of : List ℕ → List ℕ
bounds_of row = get_or row 4 0 ∷ get_or row 5 0 ∷ get_or row 6 0 ∷ get_or row 7 0 ∷ []

-- references that fit masks, one behind another, and the height of the tallest; where masks are left, they take none
abbrev bare : List ℕ → Bool
bare [] = true
bare (m ∷ ms) = pick (has m nothing) (bare ms) false

pub data Refs (ns : List Node) : List ℕ → List ℕ → ℕ → Type 0 where
  empty : {ms : List ℕ} → bare ms ≡ true → Refs ns ms [] 0
  ref : {mask m r h t : ℕ} {ms rs : List ℕ} → Known mask ns r h → within mask m ≡ true → Refs ns ms rs t → Refs ns (m ∷ ms) (r ∷ rs) (max h t)

-- numbers within bounds, and a range within the symbol
abbrev Bounded : List ℕ → List ℕ → Type 0
Bounded [] [] = Unit {0}
Bounded [] (v ∷ vs) = ⊥
Bounded (m ∷ ms) [] = Unit {0}
Bounded (m ∷ ms) (v ∷ vs) = (v ≤ m) × Bounded ms vs

abbrev InRange : ℕ → ℕ → ℕ → Type 0
InRange long zero n = Unit {0}
InRange long (suc g) n = n ≤ long

abbrev pub Numbers : ℕ → List ℕ → List ℕ → Type 0
Numbers long row vs = Bounded (bounds_of row) vs × InRange long (get_or row 8 0) (get_or vs 0 0 + get_or vs 1 0)

-- a namespace's id has a digit behind its `0x`: the form of a table does not ask for it, but each reading leaves it so
abbrev pub is_id : ℕ → Bool
is_id kind = eqb kind (kind_number AnonymousId)

abbrev pub IdIf : Bool → List ℕ → Type 0
IdIf true vs = 3 ≤ get_or vs 1 0
IdIf false vs = Unit {0}

-- a node that is formed, over those before it
pub record NodeOk (long : ℕ) (front : List Node) (n : Node) : Type 0 where
  pub known : get_or (row_of n.kind) 0 0 ≡ 0 → ⊥
  pub tall : ℕ
  pub refs : Refs front (masks_of (row_of n.kind)) n.refs tall
  pub numbers : Numbers long (row_of n.kind) n.numbers
  pub id : IdIf (is_id n.kind) n.numbers
  pub height : n.height ≡ tall + rises n.kind

-- nodes that are formed one by one, behind some that are
abbrev pub FormedFrom : ℕ → List Node → List Node → Type 0
FormedFrom long front [] = Unit {0}
FormedFrom long front (n ∷ ns) = NodeOk long front n × FormedFrom long (front ++ (n ∷ [])) ns

pub formed-snoc : (long : ℕ) (front ns : List Node) (n : Node) → FormedFrom long front ns → NodeOk long (front ++ ns) n → FormedFrom long front (ns ++ (n ∷ []))
formed-snoc long front [] n f k = (rw (append-nil front) at k, tt)
formed-snoc long front (m ∷ ns) n f k = (f.0, formed-snoc long (front ++ (m ∷ [])) ns n f.1 (rw (append_snoc front m ns) k))

-- the node that was added last
height-last : (ns : List Node) (n : Node) → height_of (ns ++ (n ∷ [])) (suc (length ns)) ≡ n.height
height-last [] n = refl
height-last (m ∷ ns) n = height-last ns n

pub kind-last : (ns : List Node) (n : Node) → kind_at (ns ++ (n ∷ [])) (length ns) ≡ n.kind
kind-last [] n = refl
kind-last (m ∷ ns) n = kind-last ns n

row_fits : (mask kind : ℕ) (row : List ℕ) → row_of kind ≡ row → has mask (get_or row 0 0) ≡ true → fits mask (shape_of kind 0) ≡ true
unfolding fits shape_of
row_fits mask kind row e f = rw e f

pub known-last : {mask : ℕ} (ns : List Node) (n : Node) (row : List ℕ) → row_of n.kind ≡ row → has mask (get_or row 0 0) ≡ true → Known mask (ns ++ (n ∷ [])) (length ns + 1) n.height
known-last {mask} ns n row e f = record { fit = rw (add-one, kind-last ns n) (row_fits mask n.kind row e f); high = rw add-one (height-last ns n) }

-- a height that no node passes
low-tail : (d : ℕ) (n : Node) (ns : List Node) → ((r : ℕ) → height_of (n ∷ ns) r ≤ d) → (r : ℕ) → height_of ns r ≤ d
low-tail d n ns f zero = omega (arith, height-none ns)
low-tail d n ns f (suc r) = f (suc (suc r))

pub low-last : (d : ℕ) (ns : List Node) (n : Node) → ((r : ℕ) → height_of ns r ≤ d) → n.height ≤ d → (r : ℕ) → height_of (ns ++ (n ∷ [])) r ≤ d
low-last d [] n f h zero = omega arith
low-last d [] n f h (suc zero) = h
low-last d [] n f h (suc (suc r)) = omega arith
low-last d (m ∷ ns) n f h zero = omega arith
low-last d (m ∷ ns) n f h (suc zero) = f 1
low-last d (m ∷ ns) n f h (suc (suc r)) = low-last d ns n (low-tail d m ns f) h (suc r)

pub low-tallest : (d : ℕ) (ns : List Node) (rs : List ℕ) → ((r : ℕ) → height_of ns r ≤ d) → tallest ns rs ≤ d
low-tallest d ns [] f = omega arith
low-tallest d ns (r ∷ rs) f = omega (arith, f r, low-tallest d ns rs f)

-- the tallest of references that fit
pub refs-tallest : {ns : List Node} {ms rs : List ℕ} {t : ℕ} → Refs ns ms rs t → tallest ns rs ≡ t
refs-tallest (empty e) = refl
refs-tallest (ref k e f) = rw (k.high, refs-tallest f)

bare-at : (ms : List ℕ) → bare ms ≡ true → (j : ℕ) → j < length ms → fits (get_or ms j 0) nothing ≡ true
unfolding fits
bare-at [] e j h = absurd (omega arith)
bare-at (m ∷ ms) e zero h = (both (has m nothing) (bare ms) e).0
bare-at (m ∷ ms) e (suc j) h = bare-at ms (both (has m nothing) (bare ms) e).1 j (omega arith)

ref-at : {ns : List Node} {ms rs : List ℕ} {t : ℕ} → Refs ns ms rs t → (j : ℕ) → j < length ms → fits (get_or ms j 0) (class_at ns (get_or rs j 0)) ≡ true
ref-at (empty {ms = ms} e) j h = bare-at ms e j h
ref-at (ref {m = m} k e f) zero h = (wider m k e).fit
ref-at (ref k e f) (suc j) h = ref-at f j (omega arith)

refs-few : {ns : List Node} {ms rs : List ℕ} {t : ℕ} → Refs ns ms rs t → length rs ≤ length ms
refs-few (empty e) = omega arith
refs-few (ref k e f) = omega (arith, refs-few f)

number_at : (ms vs : List ℕ) → Bounded ms vs → (j : ℕ) → get_or vs j 0 ≤ get_or ms j 0
number_at [] [] b j = omega arith
number_at [] (v ∷ vs) b j = absurd b
number_at (m ∷ ms) [] b j = omega arith
number_at (m ∷ ms) (v ∷ vs) b zero = b.0
number_at (m ∷ ms) (v ∷ vs) b (suc j) = number_at ms vs b.1 j

-- the cells of a list of nodes
abbrev cells_at : Node → List ℕ
cells_at n = table.cells (laid n.kind n.height n.numbers n.refs)

cells-last : (ns : List Node) (n : Node) (tail : List ℕ) → cells_of (ns ++ (n ∷ [])) ++ tail ≡ cells_of ns ++ (cells_at n ++ tail)
cells-last [] n tail = refl
cells-last (m ∷ ns) n tail = ap (cells_at m ++◌) (cells-last ns n tail)

-- behind twelve cells stands the next node
module _ (c t : List ℕ) (twelve : length c ≡ 12) where
  nodes-next : table.nodes (c ++ t) ≡ table.nodes t + 1
  nodes-next = omega (arith, length-append c t)

  first_cell : (j : ℕ) → j < 12 → table.cell_of (c ++ t) 0 j ≡ get_or c j 0
  unfolding table.cell_of
  first_cell j h =
      rw (lt-ltb 0 (table.nodes (c ++ t)) (omega (arith, nodes-next)), lt-ltb j 12 h, zero-add j)
      (get_or-append c t 0 j (omega arith))

  test-next : (i : ℕ) → ltb (suc i) (table.nodes (c ++ t)) ≡ ltb i (table.nodes t)
  test-next i = go (dec_lt i (table.nodes t))
    where
      go : Dec (i < table.nodes t) → ltb (suc i) (table.nodes (c ++ t)) ≡ ltb i (table.nodes t)
      go (yes h) = lt-ltb (suc i) (table.nodes (c ++ t)) (omega (arith, nodes-next)) ∙ sym (lt-ltb i (table.nodes t) h)
      go (no h) = le-ltb (suc i) (table.nodes (c ++ t)) (omega (arith, nodes-next, h)) ∙ sym (le-ltb i (table.nodes t) (omega (arith, h)))

  next-cell : (i j : ℕ) → table.cell_of (c ++ t) (suc i) j ≡ table.cell_of t i j
  unfolding table.cell_of
  next-cell i j =
      let e : suc i * 12 + j ≡ length c + (i * 12 + j) = omega arith in
      rw (test-next i, e, get_or-append-add c t (i * 12 + j) 0)

-- the cells of nodes, whatever stands behind them
module _ (tail : List ℕ) where
  pub cell-kind : (ns : List Node) (i : ℕ) → i < length ns → table.cell_of (cells_of ns ++ tail) i 0 ≡ kind_at ns i
  cell-kind [] i h = absurd (omega arith)
  cell-kind (n ∷ ns) zero h = first_cell (cells_at n) (cells_of ns ++ tail) refl 0 (omega arith)
  cell-kind (n ∷ ns) (suc i) h = next-cell (cells_at n) (cells_of ns ++ tail) refl i 0 ∙ cell-kind ns i (omega arith)

  cell-height : (ns : List Node) (i : ℕ) → i < length ns → table.cell_of (cells_of ns ++ tail) i 1 ≡ height_of ns (suc i)
  cell-height [] i h = absurd (omega arith)
  cell-height (n ∷ ns) zero h = first_cell (cells_at n) (cells_of ns ++ tail) refl 1 (omega arith)
  cell-height (n ∷ ns) (suc i) h = next-cell (cells_at n) (cells_of ns ++ tail) refl i 1 ∙ cell-height ns i (omega arith)

  pub height-cells : (ns : List Node) (r : ℕ) → r ≤ length ns → table.height_at (cells_of ns ++ tail) r ≡ height_of ns r
  unfolding table.height_at
  height-cells ns zero l = sym (height-none ns)
  height-cells ns (suc i) l = let z : suc i - 1 ≡ i = omega arith in rw (ne_eqb (suc i) 0 (λ e. omega arith), z, cell-height ns i l)

  -- a reference that fits, to a node behind them
  ref-ok : (ns : List Node) (mask r : ℕ) → fits mask (class_at ns r) ≡ true → ref_ok (cells_of ns ++ tail) (length ns) mask r ≡ true
  unfolding ref_ok
  ref-ok ns mask zero f = f
  ref-ok ns mask (suc i) f =
      let l : suc i ≤ length ns = class-inside mask ns (suc i) f in
      let z : suc i - 1 ≡ i = omega arith in
      rw (ne_eqb (suc i) 0 (λ e. omega arith), le-leb (suc i) (length ns) l, z, cell-kind ns i l) f

  -- all cells of a node behind them
  cell-own : (front : List Node) (n : Node) (j : ℕ) → j < 12 → table.cell_of (cells_of front ++ (cells_at n ++ tail)) (length front) j ≡ get_or (cells_at n) j 0
  cell-own [] n j h = first_cell (cells_at n) tail refl j h
  cell-own (m ∷ front) n j h = next-cell (cells_at m) (cells_of front ++ (cells_at n ++ tail)) refl (length front) j ∙ cell-own front n j h

-- of three references the tallest
tallest-three : (ns : List Node) (rs : List ℕ) → length rs ≤ 3 → tallest ns rs ≡ max (max (height_of ns (get_or rs 0 0)) (height_of ns (get_or rs 1 0))) (height_of ns (get_or rs 2 0))
tallest-three ns [] h = rw (height-none ns)
tallest-three ns (a ∷ []) h = omega (arith, height-none ns)
tallest-three ns (a ∷ b ∷ []) h = omega (arith, height-none ns)
tallest-three ns (a ∷ b ∷ c ∷ []) h = omega arith
tallest-three ns (a ∷ b ∷ c ∷ d ∷ rs) h = absurd (omega arith)

range-ok : (long g n : ℕ) → InRange long g n → cond (eqb g 0) true (leb n long) ≡ true
range-ok long zero n h = refl
range-ok long (suc g) n h = rw (ne_eqb (suc g) 0 (λ e. omega arith)) (le-leb n long h)

same-rise : (b : Bool) → ◌≡◌ {A = ℕ} (cond b 0 1) (pick b 0 1)
same-rise true = refl
same-rise false = refl

-- a formed node, in the cells
module _ (long : ℕ) (front : List Node) (n : Node) (tail : List ℕ) (ok : NodeOk long front n) where
  abbrev t : List ℕ
  t = cells_of front ++ (cells_at n ++ tail)

  abbrev i : ℕ
  i = length front

  own-kind : table.cell_of t i 0 ≡ n.kind
  own-kind = cell-own tail front n 0 (omega arith)

  refs-ok : refs_ok t i ≡ true
  unfolding refs_ok shape_of
  refs-ok =
      rw (
        own-kind,
        cell-own tail front n 4 (omega arith),
        cell-own tail front n 5 (omega arith),
        cell-own tail front n 6 (omega arith),
        ref-ok (cells_at n ++ tail) front _ _ (ref-at ok.refs 0 (omega arith)),
        ref-ok (cells_at n ++ tail) front _ _ (ref-at ok.refs 1 (omega arith)),
      )
      (ref-ok (cells_at n ++ tail) front _ _ (ref-at ok.refs 2 (omega arith)))

  number_ok_lem : (j v : ℕ) → table.cell_of t i (7 + j) ≡ v → v ≤ shape_of n.kind (4 + j) → number_ok t i j ≡ true
  unfolding number_ok
  number_ok_lem j v e l = rw (own-kind, e) (le-leb v (shape_of n.kind (4 + j)) l)

  numbers-ok : numbers_ok t i ≡ true
  unfolding numbers_ok shape_of
  numbers-ok =
      let b = number_at (bounds_of (row_of n.kind)) n.numbers ok.numbers.0 in
      rw (number_ok_lem 0 _ (cell-own tail front n 7 (omega arith)) (b 0), number_ok_lem 1 _ (cell-own tail front n 8 (omega arith)) (b 1), number_ok_lem 2 _ (cell-own tail front n 9 (omega arith)) (b 2))
      (number_ok_lem 3 _ (cell-own tail front n 10 (omega arith)) (b 3))

  in-range-ok : range_ok t long i ≡ true
  unfolding range_ok shape_of
  in-range-ok =
      rw (own-kind, cell-own tail front n 7 (omega arith), cell-own tail front n 8 (omega arith))
      (range-ok long (get_or (row_of n.kind) 8 0) (get_or n.numbers 0 0 + get_or n.numbers 1 0) ok.numbers.1)

  rest_ok_lem : rest_ok t i ≡ true
  unfolding rest_ok
  rest_ok_lem = rw (cell-own tail front n 2 (omega arith), cell-own tail front n 3 (omega arith), cell-own tail front n 11 (omega arith))

  ref-height : (j : ℕ) → j < 3 → table.height_at t (get_or n.refs j 0) ≡ height_of front (get_or n.refs j 0)
  ref-height j l = height-cells (cells_at n ++ tail) front (get_or n.refs j 0) (class-inside _ front (get_or n.refs j 0) (ref-at ok.refs j l))

  heights-ok : height_ok t i ≡ true
  unfolding height_ok
  heights-ok =
      rw (own-kind, cell-own tail front n 1 (omega arith), cell-own tail front n 4 (omega arith), cell-own tail front n 5 (omega arith), cell-own tail front n 6 (omega arith))
      (rw (ref-height 0 (omega arith), ref-height 1 (omega arith), ref-height 2 (omega arith))
      (eq-eqb _ _ (ok.height ∙ omega (arith, refs-tallest ok.refs, tallest-three front n.refs (refs-few ok.refs), same-rise (leb n.kind 2)))))

  node_ok_lem : node_ok t long i ≡ true
  unfolding node_ok shape_of
  node_ok_lem = rw (own-kind, ne_eqb (get_or (row_of n.kind) 0 0) 0 ok.known, refs-ok, numbers-ok, in-range-ok, rest_ok_lem) heights-ok

-- formed nodes are a well-formed table, whatever stands behind them
formed-table :
    (long : ℕ) (tail : List ℕ) (front ns : List Node) → FormedFrom long front ns → well_formed (cells_of front ++ (cells_of ns ++ tail)) long (length front) ≡ true →
    well_formed (cells_of front ++ (cells_of ns ++ tail)) long (length front + length ns) ≡ true
formed-table long tail front [] f e = rw (add-zero (length front)) e
formed-table long tail front (n ∷ ns) f e =
    let l : length front + suc (length ns) ≡ length (front ++ (n ∷ [])) + length ns = omega (arith, length-append front (n ∷ [])) in
    rw (l, ← cells-last front n (cells_of ns ++ tail))
    (formed-table long tail (front ++ (n ∷ [])) ns f.1
    (rw (cells-last front n (cells_of ns ++ tail), length-append front (n ∷ [])) (formed-more _ long (length front) e (node_ok_lem long front n (cells_of ns ++ tail) f.0))))

pub well-formed : (long : ℕ) (ns : List Node) (tail : List ℕ) → FormedFrom long [] ns → well_formed (cells_of ns ++ tail) long (length ns) ≡ true
unfolding well_formed
well-formed long ns tail f = rw (zero-add (length ns)) at (formed-table long tail [] ns f refl)

-- and each id among them has a digit
id-long : (kind : ℕ) (vs : List ℕ) → kind ≡ kind_number AnonymousId → IdIf (is_id kind) vs → 3 ≤ get_or vs 1 0
id-long kind vs e h = rw e at h

pub ids-long :
    (long : ℕ) (tail : List ℕ) (front ns : List Node) → FormedFrom long front ns → (i : ℕ) → i < length ns →
    table.cell_of (cells_of ns ++ tail) i table.KIND ≡ kind_number AnonymousId → 3 ≤ table.cell_of (cells_of ns ++ tail) i table.Q
ids-long long tail front [] f i l e = absurd (omega arith)
ids-long long tail front (n ∷ ns) f zero l e =
    let first = first_cell (cells_at n) (cells_of ns ++ tail) refl in
    rw (first table.Q (omega arith)) (id-long n.kind n.numbers (sym (first table.KIND (omega arith)) ∙ e) f.0.id)
ids-long long tail front (n ∷ ns) f (suc i) l e =
    let next = next-cell (cells_at n) (cells_of ns ++ tail) refl i in
    rw (next table.Q) (ids-long long tail (front ++ (n ∷ [])) ns f.1 i (omega arith) (sym (next table.KIND) ∙ e))

-- a name that may be stored is no namespace without an id, whose class is another
idless-misfits : (kind : ℕ) → kind ≡ kind_number Anonymous → fits (plain + scoped) (shape_of kind 0) ≡ true → ⊥
unfolding fits shape_of
idless-misfits kind e f = true-false (sym (rw e at f))

pub never-idless : (tail : List ℕ) (ns : List Node) (n : ℕ) → fits (plain + scoped) (class_at ns (n + 1)) ≡ true → table.cell_of (cells_of ns ++ tail) n table.KIND ≡ kind_number Anonymous → ⊥
never-idless tail ns n f e =
    let next : n + 1 ≡ suc n = omega arith in
    let fit : fits (plain + scoped) (class_at ns (suc n)) ≡ true = rw next at f in
    idless-misfits (kind_at ns n) (sym (cell-kind tail ns n (class-inside (plain + scoped) ns (suc n) fit)) ∙ e) fit
