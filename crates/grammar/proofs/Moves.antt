-- How far a program has come where it answers, by the credit that its bytes earned (Funded.antt): what is left of it was paid for by bytes, however many nodes were counted.
--     run-moves    of every program that is funded
-- Assumes nothing.
use Prim.Native.Nat.{ℕ, zero, suc, ◌+◌, ◌-◌, ◌*◌, ◌≤◌}
use mathlib.Core.Path.{◌≡◌, refl}
use mathlib.Core.List.{List}
use mathlib.Core.Bool.{Bool, true, false}
use native.Mathlib.Omega.{arith}
use lib.ListN.{length}
use Rattle.scan.specs.Bytes.{pick, is_digit}
use Rattle.grammar.specs.Program.{Program, ret, fail, look, when, skip, recall, keep, store, part, sub, node, Reply, found, refused, Out, onward, Part, Shut, Same, run, at+}
use Rattle.grammar.specs.Words.{byte_at, digit}
use Rattle.grammar.specs.Counts.{Node, opened, asking, shut_nodes, read_nodes, shut_asking, read_asking}
use Rattle.grammar.specs.Table.{shut_table, same_table, read_table}
use Rattle.grammar.specs.declared.State.{State}
use Rattle.grammar.proofs.Funded.{Promise, Funded, Fund, digit-inside}
use Rattle.grammar.proofs.Calm.{IfFound}
use Rattle.grammar.proofs.Memos.{Steady, nodes-steady, table-steady, asking-steady}
use Rattle.scan.specs.Limits.{deepest_reading}

-- an answer stands within the symbol, and no nearer to its start than half of `least` bytes
abbrev pub Stands : List ℕ → ℕ → State → Type 0
Stands s least st = (least ≤ 2 * st.at) × (st.at ≤ length s)

pub record Reaches {A T : Type 0} (s : List ℕ) (least : ℕ) (o : Out A T) : Type 0 where
  pub end : IfFound o.reply (λ a. Stands s least o.state)

always : {A P : Type 0} (r : Reply A) → P → IfFound r (λ a. P)
always (found a) p = p
always (refused w) p = tt

pub pick-reaches : {A T : Type 0} {s : List ℕ} {g : ℕ} (b : Bool) (x y : Out A T) → (b ≡ true → Reaches s g x) → (b ≡ false → Reaches s g y) → Reaches s g (pick b x y)
pick-reaches true x y p q = p refl
pick-reaches false x y p q = q refl

then-reaches :
    {A B T : Type 0} {s : List ℕ} {g : ℕ} (m : ℕ) (r : Reply A) (st : State) (t : T) (f : A → State → T → Out B T) → IfFound r (λ a. Stands s m st) → ((a : A) → Stands s m st → Reaches s g (f a st t)) →
    Reaches s g (onward r st t f)
then-reaches m (found a) st t f h k = k a h
then-reaches m (refused w) st t f h k = record { end = tt }

if-map : {A P Q : Type 0} (r : Reply A) → (P → Q) → IfFound r (λ a. P) → IfFound r (λ a. Q)
if-map (found a) f h = f h
if-map (refused w) f h = tt

fewer : {A T : Type 0} {s : List ℕ} (m n : ℕ) (o : Out A T) → m ≤ n → Reaches s n o → Reaches s m o
fewer {s = s} m n o l r = record { end = if-map o.reply (λ (h : Stands s n o.state). omega (arith, h.0, h.1)) r.end }

onward-alike : {A B T P : Type 0} (r : Reply A) (st : State) (t : T) (f f' : A → State → T → Out B T) → IfFound r (λ a. P) → ((a : A) → P → f a st t ≡ f' a st t) → onward r st t f ≡ onward r st t f'
onward-alike (found a) st t f f' h k = k a h
onward-alike (refused w) st t f f' h k = refl

-- p, where it answers, has taken half of n bytes or more: so one, where n is 1. Nodes cost nothing here
module _ {Tag T : Type 0} {Ans : Tag → Type 0} (s : List ℕ) (same : Same T) (shut : Shut T) (rec : Part Tag Ans T) where
  pub record Gains {A : Type 0} (n : ℕ) (p : Program Tag Ans A) : Type 0 where
    pub by : (st : State) (t : T) → st.at ≤ length s → Reaches s (2 * st.at + n) (run s same shut rec p st t)

  -- after a program that reaches so far, what goes on alike from every place so far on is alike
  pub then-alike :
      {A B : Type 0} {m : ℕ} (p : Program Tag Ans B) (k k' : B → Program Tag Ans A) (st : State) (t : T) → Reaches s m (run s same shut rec p st t) →
      ((b : B) (st₁ : State) (t₁ : T) → Stands s m st₁ → run s same shut rec (k b) st₁ t₁ ≡ run s same shut rec (k' b) st₁ t₁) →
      run s same shut rec (sub p k) st t ≡ run s same shut rec (sub p k') st t
  unfolding run
  then-alike p k k' st t f h = let o = run s same shut rec p st t in onward-alike o.reply o.state o.cells _ _ f.end (λ b g. h b o.state o.cells g)

module _ {Tag T : Type 0} {Ans : Tag → Type 0} {s : List ℕ} {same : Same T} {shut : Shut T} {rec : Part Tag Ans T} where
  pub then-gains : {A B : Type 0} (n m : ℕ) {p : Program Tag Ans B} {k : B → Program Tag Ans A} → Gains s same shut rec n p → ((b : B) → Gains s same shut rec m (k b)) → Gains s same shut rec (n + m) (sub p k)
  unfolding run
  then-gains n m {p} {k} f g = record {
    by = λ st t i.
        let o = run s same shut rec p st t in
        then-reaches (2 * st.at + n) o.reply o.state o.cells _ (f.by st t i).end
        (λ a h. fewer (2 * st.at + (n + m)) (2 * o.state.at + m) (run s same shut rec (k a) o.state o.cells) (omega (arith, h.0)) ((g a).by o.state o.cells h.1));
  }

  pub node-gains : {kd : ℕ} {numbers refs : List ℕ} → Steady shut → Gains s same shut rec 0 (node kd numbers refs ret)
  unfolding run
  node-gains {kd} {numbers} {refs} steady = record {
    by = λ st t i.
        let o = shut kd numbers refs st t in
        let e : o.state.at ≡ st.at = (steady kd numbers refs st t).at in
        then-reaches (2 * st.at + 0) o.reply o.state o.cells _ (always o.reply (omega arith)) (λ n h. record { end = h });
  }

  -- a digit is a byte
  pub digit-gains : {A : Type 0} (p : ℕ → Program Tag Ans A) {q : Program Tag Ans A} → ((d : ℕ) → Gains s same shut rec 0 (p d)) → Gains s same shut rec 1 q → Gains s same shut rec 1 (digit p q)
  unfolding run
  digit-gains p f g = record {
    by = λ st t i.
        pick-reaches (is_digit (byte_at s st.at)) _ _
        (λ e. let l = digit-inside s st.at e in fewer (2 * st.at + 1) (2 * (st.at + 1) + 0) (run s same shut rec (p _) (at+ 1 st) t) (omega arith) ((f _).by (at+ 1 st) t (omega arith)))
        (λ e. g.by st t i);
  }

-- parts that keep what their tags promise
abbrev pub Moving : {Tag T : Type 0} {Ans : Tag → Type 0} → List ℕ → (Tag → Promise) → Part Tag Ans T → Type 0
Moving {Tag} {T} s promise rec = (tag : Tag) (z : ℕ) (st : State) (t : T) → st.at ≤ length s → z + (promise tag).need ≤ 2 * st.at → Reaches s (z + (promise tag).gives) (rec tag st t)

module _ {Tag T : Type 0} {Ans : Tag → Type 0} (s : List ℕ) (promise : Tag → Promise) (same : Same T) (shut : Shut T) (rec : Part Tag Ans T) (steady : Steady shut) (moving : Moving s promise rec) where
  pub run-moves : {A : Type 0} (p : Program Tag Ans A) (z c g : ℕ) (st : State) (t : T) → st.at ≤ length s → z + c ≤ 2 * st.at → Funded s promise st.at c g p → Reaches s (z + g) (run s same shut rec p st t)
  unfolding run
  run-moves (ret a) z c g st t i b f = record { end = (omega arith, i) }
  run-moves fail z c g st t i b f = record { end = tt }
  run-moves (look k) z c g st t i b f = run-moves (k s st.at) z c g st t i b f
  run-moves (when x p q) z c g st t i b f = pick-reaches x _ _ (λ h. run-moves p z c g st t i b (f.0 h)) (λ h. run-moves q z c g st t i b (f.1 h))
  run-moves (skip n p) z c g st t i b f = run-moves p z (c + 2 * n) g _ t f.0 (omega arith) f.1
  run-moves (recall k) z c g st t i b f = run-moves (k st.memo) z c g st t i b (f st.memo)
  run-moves (keep m p) z c g st t i b f = run-moves p z c g _ t i b f
  run-moves (store w n p) z c g st t i b f = run-moves p z c g _ t i b f
  run-moves (part tag k) z c g st t i b f =
      let l : (promise tag).need ≤ c = f.0 in
      let o = rec tag st t in
      then-reaches (z + (c - (promise tag).need) + (promise tag).gives) o.reply o.state o.cells _ (moving tag (z + (c - (promise tag).need)) st t i (omega arith)).end
      (λ a h. run-moves (k a) z (c - (promise tag).need + (promise tag).gives) g o.state o.cells h.1 (omega (arith, h.0)) (f.1 a o.state.at h.1))
  run-moves (sub p k) z c g st t i b f =
      let o = run s same shut rec p st t in
      then-reaches (z + f.0) o.reply o.state o.cells _ (run-moves p z c f.0 st t i b f.1).end
      (λ a h. run-moves (k a) z f.0 g o.state o.cells h.1 h.0 (f.2 a o.state.at h.1))
  run-moves (node kd numbers refs k) z c g st t i b f =
      let l : 1 ≤ c = f.0 in
      let o = shut kd numbers refs st t in
      let e : o.state.at ≡ st.at = (steady kd numbers refs st t).at in
      then-reaches (z + (c - 1)) o.reply o.state o.cells _ (always o.reply (omega arith))
      (λ n h. run-moves (k n) z (c - 1) g o.state o.cells h.1 h.0 (f.1 n o.state.at h.1))

  pub earned : {A : Type 0} {n : ℕ} (p : Program Tag Ans A) → Fund s promise 0 n p → Gains s same shut rec n p
  earned {n = n} p f = record { by = λ st t i. run-moves p (2 * st.at) 0 n st t i (omega arith) (f.by st.at i) }

-- the readings, of a grammar whose productions are funded
module _ {Tag : Type 0} {Ans : Tag → Type 0} (body : (tag : Tag) → Program Tag Ans (Ans tag)) (s : List ℕ) (promise : Tag → Promise) (funded : (tag : Tag) → Fund s promise (promise tag).need (promise tag).gives (body tag)) where
  pub nodes-move : (same : Same (List Node)) (limit room d : ℕ) → Moving s promise (read_nodes body same s limit room d)
  unfolding read_nodes
  nodes-move same limit room zero tag z st ns i b = record { end = tt }
  nodes-move same limit room (suc d) tag z st ns i b =
      run-moves s promise same (shut_nodes limit room) (read_nodes body same s limit room d) (nodes-steady limit room) (nodes-move same limit room d) (body tag) z _ _ (opened (limit - d) st) ns i b ((funded tag).by st.at i)

  pub asking-moves : (same : Same (List Node)) (d : ℕ) → Moving s promise (read_asking body same s d)
  unfolding read_asking
  asking-moves same zero tag z st l i b = record { end = tt }
  asking-moves same (suc d) tag z st l i b =
      run-moves s promise (λ used l. same used l.nodes) shut_asking (read_asking body same s d) asking-steady (asking-moves same d) (body tag) z _ _ (opened (deepest_reading - d) st) (asking (deepest_reading - d) st l) i b ((funded tag).by st.at i)

  pub table-moves : (limit room d : ℕ) → Moving s promise (read_table body s limit room d)
  unfolding read_table
  table-moves limit room zero tag z st t i b = record { end = tt }
  table-moves limit room (suc d) tag z st t i b =
      run-moves s promise (same_table s) (shut_table limit room) (read_table body s limit room d) (table-steady limit room) (table-moves limit room d) (body tag) z _ _ (opened (limit - d) st) t i b ((funded tag).by st.at i)
