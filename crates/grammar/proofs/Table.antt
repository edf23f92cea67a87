-- Once for every grammar: a reading over a lent table is the reading over a growing list of nodes, with their cells in front of what the table had.
--     reads-agree   from any state: the same reply and state, and the table holds the nodes
--     held          a whole reading over a table, in a room that the table has, is what its demands settle
--     capped-held   in this grammar a cap on the room, twice the symbol's bytes or more, changes nothing
--     lent          nor does it if only the table's first nodes are lent, as many as the cap
-- Assumes nothing.
use Prim.Native.Nat.{ℕ, zero, suc, ◌+◌, ◌*◌, ◌-◌, ◌<◌, ◌≤◌, max, min}
use mathlib.Core.Path.{◌≡◌, refl, sym, ap, ap₂, subst, ◌∙◌}
use mathlib.Core.List.{List, [], ◌∷◌, ◌++◌, append-nil, append_assoc}
use mathlib.Core.Bool.{Bool, true, false}
use native.Mathlib.Decide.{dec_lt}
use native.Mathlib.Omega.{arith}
use borrow.Author.Tests.{leb-true, lt-ltb, le-ltb}
use lib.Dec.{leb, eqb-suc-zero}
use lib.ListN.{length, get_or, take, drop, replicate, length-append, length-drop, get_or-eq_default}
use lib.Seq.{take_at, drop_at, drop-drop, get_or-append-add}
use Rattle.scan.specs.Bytes.{pick}
use Rattle.node.specs.Cells as table
use Rattle.node.specs.declared.Node as row
use Rattle.meaning.specs.Tree.{tree_of, eq_tree}
use Rattle.grammar.specs.Program.{Program, ret, fail, look, when, skip, recall, keep, store, part, sub, node, Reply, found, refused, Out, out, onward, and_then, Part, Shut, Same, run, added, at+, with}
use Rattle.grammar.specs.Counts.{Node, height_of, tallest, made, deepens, closed, opened, shut_nodes, read_nodes, Log, asks, settle}
use Rattle.grammar.specs.Table.{laid, cells_of, counted, tallest_in, shut_table, same_table, same_nodes, read_table}
use Rattle.grammar.specs.Grammar.{Ans, Parse, body}
use Rattle.grammar.specs.declared.State.{State}
use Rattle.grammar.specs.declared.Refusal.TheVariants.{Deep, Full}
use Rattle.grammar.proofs.Demands.{settles}
use Rattle.grammar.proofs.Paid.{grammar-capped}
use Rattle.scan.specs.Limits.{deepest_reading}

-- nodes in their cells
abbrev row_of : Node → row.Node
row_of n = laid n.kind n.height n.numbers n.refs

abbrev cells_one : Node → List ℕ
cells_one n = table.cells (row_of n)

cells-length : (ns : List Node) → length (cells_of ns) ≡ length ns * 12
cells-length [] = refl
cells-length (n ∷ ns) = omega (arith, cells-length ns)

cells-end : (ns : List Node) (n : Node) → cells_of (ns ++ (n ∷ [])) ≡ cells_of ns ++ cells_one n
cells-end [] n = append-nil (cells_one n)
cells-end (m ∷ ns) n = ap (cells_one m ++◌) (cells-end ns n) ∙ sym (append_assoc (cells_one m) (cells_of ns) (cells_one n))

-- a node's height is in its second cell
second-cell : (ns : List Node) (k : ℕ) → get_or (cells_of ns) (k * 12 + 1) 0 ≡ height_of ns (suc k)
second-cell [] k = refl
second-cell (n ∷ ns) zero = refl
second-cell (n ∷ ns) (suc k) =
    let e : suc k * 12 + 1 ≡ 12 + (k * 12 + 1) = omega arith in
    ap (λ (i : ℕ). get_or (cells_of (n ∷ ns)) i 0) e ∙ get_or-append-add (cells_one n) (cells_of ns) (k * 12 + 1) 0 ∙ second-cell ns k

-- and 0 where there is none
cell-held : (ns : List Node) (k : ℕ) → table.cell_of (cells_of ns) k 1 ≡ height_of ns (suc k)
unfolding table.cell_of
cell-held ns k = at (dec_lt k (length ns))
  where
    len : table.nodes (cells_of ns) ≡ length ns
    len = omega (arith, cells-length ns)

    at : Dec (k < length ns) → table.cell_of (cells_of ns) k 1 ≡ height_of ns (suc k)
    at (yes l) = rw (len, lt-ltb k (length ns) l) (second-cell ns k)
    at (no l) = rw (len, le-ltb k (length ns) (omega (arith, l))) (sym (get_or-eq_default (cells_of ns) 0 (omega (arith, l, cells-length ns))) ∙ second-cell ns k)

no-height : (ns : List Node) → height_of ns 0 ≡ 0
no-height [] = refl
no-height (n ∷ ns) = refl

pub height-held : (ns : List Node) (r : ℕ) → table.height_at (cells_of ns) r ≡ height_of ns r
unfolding table.height_at
height-held ns zero = sym (no-height ns)
height-held ns (suc k) = let e : suc k - 1 ≡ k = omega arith in rw (eqb-suc-zero k, e) (cell-held ns k)

tall-held : (ns : List Node) (refs : List ℕ) → tallest_in (cells_of ns) refs ≡ tallest ns refs
tall-held ns [] = refl
tall-held ns (r ∷ refs) = ap₂ max (height-held ns r) (tall-held ns refs)

-- the table t is the cells of ns, as many as are used, and then what t₀ had
pub record Holds (t₀ : List ℕ) (used : ℕ) (ns : List Node) (t : List ℕ) : Type 0 where
  pub is : t ≡ cells_of ns ++ drop (used * 12) t₀
  pub long : length ns ≡ used
  pub fits : used * 12 ≤ length t₀

pub record Agree {A : Type 0} (t₀ : List ℕ) (x : Out A (List ℕ)) (y : Out A (List Node)) : Type 0 where
  pub reply : x.reply ≡ y.reply
  pub state : x.state ≡ y.state
  pub holds : Holds t₀ y.state.used y.cells x.cells

module _ {t₀ : List ℕ} {used : ℕ} {ns : List Node} {t : List ℕ} (h : Holds t₀ used ns t) where
  pub length-cells : length (cells_of ns) ≡ used * 12
  length-cells = cells-length ns ∙ ap (◌* 12) h.long

  pub length-held : length t ≡ length t₀
  length-held = ap length h.is ∙ length-append (cells_of ns) (drop (used * 12) t₀) ∙ omega (arith, length-cells, length-drop (used * 12) t₀, h.fits)

  pub front-held : counted used t ≡ cells_of ns
  front-held = ap (take (used * 12)) h.is ∙ take_at (cells_of ns) (drop (used * 12) t₀) (used * 12) length-cells

  pub back-held : drop (used * 12) t ≡ drop (used * 12) t₀
  back-held = ap (drop (used * 12)) h.is ∙ drop_at (cells_of ns) (drop (used * 12) t₀) (used * 12) length-cells

  -- one node more, where there is room for it
  next-held : (n : Node) → used + 1 ≤ table.nodes t₀ → Holds t₀ (used + 1) (ns ++ (n ∷ [])) (table.stored t used (row_of n))
  unfolding table.stored
  next-held n l =
      let room : used < table.nodes t = omega (arith, length-held) in
      let e : (used + 1) * 12 ≡ used * 12 + 12 = omega arith in
      let back : drop (used * 12 + 12) t ≡ drop ((used + 1) * 12) t₀ = sym (drop-drop 12 (used * 12) t) ∙ ap (drop 12) back-held ∙ drop-drop 12 (used * 12) t₀ ∙ ap (λ (k : ℕ). drop k t₀) (sym e) in
      record {
        is = rw (lt-ltb used (table.nodes t) room, front-held, back, cells-end ns n);
        long = length-append ns (n ∷ []) ∙ ap (◌+ 1) h.long;
        fits = omega arith;
      }

then_at :
    {A B : Type 0} {t₀ : List ℕ} (r : Reply A) (st : State) (t : List ℕ) (ns : List Node) (f : A → State → List ℕ → Out B (List ℕ)) (f' : A → State → List Node → Out B (List Node)) → Holds t₀ st.used ns t →
    ((a : A) (st : State) (t : List ℕ) (ns : List Node) → Holds t₀ st.used ns t → Agree t₀ (f a st t) (f' a st ns)) → Agree t₀ (onward r st t f) (onward r st ns f')
then_at (found a) st t ns f f' h k = k a st t ns h
then_at (refused w) st t ns f f' h k = record { reply = refl; state = refl; holds = h }

then-agree :
    {A B : Type 0} {t₀ : List ℕ} (x : Out A (List ℕ)) (y : Out A (List Node)) (f : A → State → List ℕ → Out B (List ℕ)) (f' : A → State → List Node → Out B (List Node)) → Agree t₀ x y →
    ((a : A) (st : State) (t : List ℕ) (ns : List Node) → Holds t₀ st.used ns t → Agree t₀ (f a st t) (f' a st ns)) → Agree t₀ (and_then x f) (and_then y f')
then-agree x y f f' r k = rw (r.reply, r.state) (then_at y.reply y.state x.cells y.cells f f' r.holds k)

pick-agree : {A : Type 0} {t₀ : List ℕ} (b : Bool) (x x' : Out A (List ℕ)) (y y' : Out A (List Node)) → Agree t₀ x y → Agree t₀ x' y' → Agree t₀ (pick b x x') (pick b y y')
pick-agree true x x' y y' p q = p
pick-agree false x x' y y' p q = q

-- every program: parts, nodes and equality that agree are all that it sees of a table
module _ {Tag : Type 0} {Ans : Tag → Type 0} (t₀ s : List ℕ) (same : Same (List ℕ)) (same' : Same (List Node)) (shut : Shut (List ℕ)) (shut' : Shut (List Node)) (rec : Part Tag Ans (List ℕ)) (rec' : Part Tag Ans (List Node))
    (sames : (used : ℕ) (t : List ℕ) (ns : List Node) → Holds t₀ used ns t → same used t ≡ same' used ns)
    (shuts : (kd : ℕ) (numbers refs : List ℕ) (st : State) (t : List ℕ) (ns : List Node) → Holds t₀ st.used ns t → Agree t₀ (shut kd numbers refs st t) (shut' kd numbers refs st ns))
    (reads : (tag : Tag) (st : State) (t : List ℕ) (ns : List Node) → Holds t₀ st.used ns t → Agree t₀ (rec tag st t) (rec' tag st ns)) where
  run_agree : {A : Type 0} (p : Program Tag Ans A) (st : State) (t : List ℕ) (ns : List Node) → Holds t₀ st.used ns t → Agree t₀ (run s same shut rec p st t) (run s same' shut' rec' p st ns)
  unfolding run
  run_agree (ret a) st t ns h = record { reply = refl; state = refl; holds = h }
  run_agree fail st t ns h = record { reply = refl; state = refl; holds = h }
  run_agree (look k) st t ns h = run_agree (k s st.at) st t ns h
  run_agree (when b p q) st t ns h = pick-agree b _ _ _ _ (run_agree p st t ns h) (run_agree q st t ns h)
  run_agree (skip n p) st t ns h = run_agree p (at+ n st) t ns h
  run_agree (recall k) st t ns h = run_agree (k st.memo) st t ns h
  run_agree (keep m p) st t ns h = run_agree p (with m st) t ns h
  run_agree (store w n p) st t ns h = rw (sames st.used t ns h) (run_agree p (with (added (same' st.used ns) w n st.memo) st) t ns h)
  run_agree (part tag k) st t ns h = then-agree (rec tag st t) (rec' tag st ns) _ _ (reads tag st t ns h) (λ a st₁ t₁ ns₁. run_agree (k a) st₁ t₁ ns₁)
  run_agree (sub p k) st t ns h = then-agree (run s same shut rec p st t) (run s same' shut' rec' p st ns) _ _ (run_agree p st t ns h) (λ a st₁ t₁ ns₁. run_agree (k a) st₁ t₁ ns₁)
  run_agree (node kd numbers refs k) st t ns h = then-agree (shut kd numbers refs st t) (shut' kd numbers refs st ns) _ _ (shuts kd numbers refs st t ns h) (λ a st₁ t₁ ns₁. run_agree (k a) st₁ t₁ ns₁)

closes-agree :
    {t₀ : List ℕ} (n : Node) (st : State) (t : List ℕ) (ns : List Node) (low fit : Bool) → (fit ≡ true → st.used + 1 ≤ table.nodes t₀) → Holds t₀ st.used ns t →
    Agree t₀
    (pick low (pick fit (out (found st.used) (closed (deepens n) st) (table.stored t st.used (row_of n))) (out (refused Full) st t)) (out (refused Deep) st t))
    (pick low (pick fit (out (found st.used) (closed (deepens n) st) (ns ++ (n ∷ []))) (out (refused Full) st ns)) (out (refused Deep) st ns))
closes-agree n st t ns true true f h = record { reply = refl; state = refl; holds = next-held h n (f refl) }
closes-agree n st t ns true false f h = record { reply = refl; state = refl; holds = h }
closes-agree n st t ns false fit f h = record { reply = refl; state = refl; holds = h }

-- in a room that the table has: beyond it a store would write nothing
module _ (t₀ s : List ℕ) (limit room : ℕ) (enough : room ≤ table.nodes t₀) where
  sames-agree : (used : ℕ) (t : List ℕ) (ns : List Node) → Holds t₀ used ns t → same_table s used t ≡ same_nodes s used ns
  unfolding same_table same_nodes
  sames-agree used t ns h = ap {B = ℕ → ℕ → Bool} (λ c a b. eq_tree (tree_of c s (a + 1)) (tree_of c s (b + 1))) (front-held h)

  inside : (used : ℕ) → leb (used + 1) room ≡ true → used + 1 ≤ table.nodes t₀
  inside used e = let l : used + 1 ≤ room = leb-true _ _ e in omega arith

  shuts-agree : (kd : ℕ) (numbers refs : List ℕ) (st : State) (t : List ℕ) (ns : List Node) → Holds t₀ st.used ns t → Agree t₀ (shut_table limit room kd numbers refs st t) (shut_nodes limit room kd numbers refs st ns)
  unfolding shut_table shut_nodes
  shuts-agree kd numbers refs st t ns h =
      let n : Node = made kd numbers refs ns in
      rw (front-held h, tall-held ns refs) (closes-agree n st t ns (leb (deepens n) limit) (leb (st.used + 1) room) (inside st.used) h)

  module _ {Tag : Type 0} {Ans : Tag → Type 0} (body : (tag : Tag) → Program Tag Ans (Ans tag)) where
    -- the theorem: a part over the table is the part over a growing list of nodes, with their cells in front
    pub reads-agree :
        (d : ℕ) (tag : Tag) (st : State) (t : List ℕ) (ns : List Node) → Holds t₀ st.used ns t →
        Agree t₀ (read_table body s limit room d tag st t) (read_nodes body (same_nodes s) s limit room d tag st ns)
    unfolding read_table read_nodes
    reads-agree zero tag st t ns h = record { reply = refl; state = refl; holds = h }
    reads-agree (suc d) tag st t ns h =
        run_agree t₀ s (same_table s) (same_nodes s) (shut_table limit room) (shut_nodes limit room) (read_table body s limit room d) (read_nodes body (same_nodes s) s limit room d) sames-agree shuts-agree
        (reads-agree d) (body tag) (opened (limit - d) st) t ns h

    -- a whole reading, from an empty list of nodes
    pub held : limit ≤ deepest_reading → (tag : Tag) (st : State) → st.used ≡ 0 → Agree t₀ (read_table body s limit room limit tag st t₀) (settle limit room (asks body (same_nodes s) s tag st))
    held low tag st no-used =
        let none : Holds t₀ st.used [] t₀ = rw no-used (record { is = refl; long = refl; fits = omega arith }) in
        subst (λ (o : Out (Ans tag) (List Node)). Agree t₀ (read_table body s limit room limit tag st t₀) o) (settles body (same_nodes s) s limit room low tag st) (reads-agree limit tag st t₀ [] none)

-- the cells that a reading used are the table's, and may be cleared
module _ {A : Type 0} {t₀ : List ℕ} (x : Out A (List ℕ)) (y : Out A (List Node)) (a : Agree t₀ x y) where
  pub used-fits : x.state.used * 12 ≤ length x.cells
  used-fits = rw (a.state, length-held a.holds) a.holds.fits

  pub cleared : replicate (x.state.used * 12) 0 ++ drop (x.state.used * 12) x.cells ≡ replicate (y.state.used * 12) 0 ++ drop (y.state.used * 12) t₀
  cleared = rw a.state (ap (replicate (y.state.used * 12) 0 ++◌) (back-held a.holds))

-- this grammar's reading: twice the symbol's length in nodes is room enough, so it doesn't see that it has no more
module _ (s t : List ℕ) (st : State) (no-at : st.at ≡ 0) (no-used : st.used ≡ 0) (no-deep : st.deep ≡ 0) (limit cap : ℕ) (low : limit ≤ deepest_reading) (enough : 2 * length s ≤ cap) where
  abbrev own : Out (Ans Parse) Log
  own = asks body (same_nodes s) s Parse st

  cap-same : settle limit (min cap (table.nodes t)) own ≡ settle limit (table.nodes t) own
  cap-same =
      sym (settles body (same_nodes s) s limit (min cap (table.nodes t)) low Parse st)
      ∙ grammar-capped s (same_nodes s) st no-at no-used no-deep limit (table.nodes t) cap low enough ∙ settles body (same_nodes s) s limit (table.nodes t) low Parse st

  pub capped-held : Agree t (read_table body s limit (min cap (table.nodes t)) limit Parse st t) (settle limit (table.nodes t) (asks body (same_nodes s) s Parse st))
  capped-held =
      subst (λ (o : Out (Ans Parse) (List Node)). Agree t (read_table body s limit (min cap (table.nodes t)) limit Parse st t) o) cap-same
      (held t s limit (min cap (table.nodes t)) (omega arith) body low Parse st no-used)
