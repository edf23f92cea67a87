-- Demand 3, once for every grammar: a reading within budgets is the refusal of the first demand that passes its limit, or else the reading itself.
--     settles    read_nodes .. within (limit, most) is settle limit most (asks ..)
--     reports    the counts reported are the largest depth and the largest number of nodes that were asked
--     suffices   budgets that the counts are within leave the reading as it is; so more never changes it
--     shallow    a depth below the depth reported, with room enough, is refused by depth
--     cramped    a room below the nodes reported, with depth enough, is refused by room
-- Assumes nothing.
use Prim.Native.Nat.{ℕ, zero, suc, ◌+◌, ◌-◌, ◌<◌, ◌≤◌, max}
use mathlib.Core.Path.{◌≡◌, refl, sym, ap, ◌∙◌}
use mathlib.Core.List.{List, [], ◌∷◌, ◌++◌, append-nil, append_assoc}
use mathlib.Core.Bool.{Bool, true, false}
use native.Mathlib.Omega.{arith}
use borrow.Author.Tests.{leb-true, leb-false, le-leb}
use lib.Dec.{leb}
use Rattle.scan.specs.Bytes.{pick}
use Rattle.grammar.specs.Program.{Program, ret, fail, look, when, skip, recall, keep, store, part, sub, node, Reply, found, refused, Out, out, onward, and_then, Part, Same, run}
use Rattle.grammar.specs.Counts.{Node, Limit, depth, room, Demand, Log, opened, shut_nodes, read_nodes, shut_asking, asking, read_asking, asks, budget, name, settled, bare, settle, fits, same-limit, most}
use Rattle.grammar.specs.declared.State.{State}
use Rattle.grammar.specs.declared.Refusal.{Refusal}
use Rattle.grammar.specs.declared.Refusal.TheVariants.{Syntax, Deep, Full}
use Rattle.scan.specs.Limits.{deepest_reading}

pub true-false : {A : Type 0} → ◌≡◌ {A = Bool} true false → A
true-false e = let z : ◌≡◌ {A = ℕ} 0 1 = cc in absurd (omega arith)

not-true : (b : Bool) → (b ≡ true → ⊥) → b ≡ false
not-true true h = absurd (h refl)
not-true false h = refl

pub leb-not : (a b : ℕ) → b < a → leb a b ≡ false
leb-not a b h = not-true (leb a b) (λ e. let l : a ≤ b = leb-true a b e in omega arith)

-- the log only grows
pub record Grows {A : Type 0} (l : Log) (o : Out A Log) : Type 0 where
  pub more : List Demand
  pub is : o.cells.asked ≡ l.asked ++ more

stays : {A : Type 0} {l : Log} {o : Out A Log} → o.cells ≡ l → Grows l o
stays {l = l} e = record { more = []; is = ap (λ (x : Log). x.asked) e ∙ sym (append-nil l.asked) }

grows-on : {A : Type 0} {l : Log} (l₁ : Log) (o : Out A Log) (new : List Demand) → l₁.asked ≡ l.asked ++ new → Grows l₁ o → Grows l o
grows-on {l = l} l₁ o new e r = record { more = new ++ r.more; is = r.is ∙ ap (◌++ r.more) e ∙ append_assoc l.asked new r.more }

then_grows : {A B : Type 0} {l : Log} (r : Reply A) (o : Out A Log) (f : A → State → Log → Out B Log) → Grows l o → ((a : A) (st : State) (l : Log) → Grows l (f a st l)) → Grows l (onward r o.state o.cells f)
then_grows (found a) o f r k = grows-on o.cells (f a o.state o.cells) r.more r.is (k a o.state o.cells)
then_grows (refused w) o f r k = record { more = r.more; is = r.is }

pick-grows : {A : Type 0} {l : Log} (b : Bool) (x y : Out A Log) → Grows l x → Grows l y → Grows l (pick b x y)
pick-grows true x y p q = p
pick-grows false x y p q = q

module _ {Tag : Type 0} {Ans : Tag → Type 0} (s : List ℕ) (same : Same Log) (rec : Part Tag Ans Log) (reads : (tag : Tag) (st : State) (l : Log) → Grows l (rec tag st l)) where
  run-grows : {A : Type 0} (p : Program Tag Ans A) (st : State) (l : Log) → Grows l (run s same shut_asking rec p st l)
  unfolding run shut_asking
  run-grows (ret a) st l = stays refl
  run-grows fail st l = stays refl
  run-grows (look k) st l = run-grows (k s st.at) st l
  run-grows (when b p q) st l = pick-grows b _ _ (run-grows p st l) (run-grows q st l)
  run-grows (skip n p) st l = run-grows p _ l
  run-grows (recall k) st l = run-grows (k st.memo) st l
  run-grows (keep m p) st l = run-grows p _ l
  run-grows (store w n p) st l = run-grows p _ l
  run-grows (part tag k) st l = then_grows (rec tag st l).reply _ _ (reads tag st l) (λ a st₁ l₁. run-grows (k a) st₁ l₁)
  run-grows (sub p k) st l = then_grows (run s same shut_asking rec p st l).reply _ _ (run-grows p st l) (λ a st₁ l₁. run-grows (k a) st₁ l₁)
  run-grows (node kd numbers refs k) st l = grows-on _ _ _ refl (run-grows (k st.used) _ _)

module _ {Tag : Type 0} {Ans : Tag → Type 0} (body : (tag : Tag) → Program Tag Ans (Ans tag)) (same : Same (List Node)) (s : List ℕ) where
  reads-grow : (d : ℕ) (tag : Tag) (st : State) (l : Log) → Grows l (read_asking body same s d tag st l)
  unfolding read_asking
  reads-grow zero tag st l = record { more = _; is = refl }
  reads-grow (suc d) tag st l = grows-on _ _ _ refl (run-grows s (λ used l. same used l.nodes) (read_asking body same s d) (reads-grow d) (body tag) (opened (deepest_reading - d) st) (asking (deepest_reading - d) st l))

-- a test that stands before others
holds_then : {A : Type 0} (b c : Bool) (x y z : A) → pick b c false ≡ true → (c ≡ true → x ≡ z) → pick b x y ≡ z
holds_then true c x y z e k = k e
holds_then false c x y z e k = true-false (sym e)

fails-then : {A : Type 0} (b c : Bool) (x z y : A) → pick b c false ≡ false → (c ≡ false → x ≡ z) → pick b x y ≡ pick b z y
fails-then true c x z y e k = k e
fails-then false c x z y e k = refl

stops_then : {A B : Type 0} (b c : Bool) (x y : Out A (List Node)) (x' y' : Out B (List Node)) (f : A → State → List Node → Out B (List Node)) → pick b c false ≡ false → (c ≡ false → and_then x f ≡ x') → and_then y f ≡ y' → and_then (pick b x y) f ≡ pick b x' y'
stops_then true c x y x' y' f e k r = k e
stops_then false c x y x' y' f e k r = r

-- within a depth and a number of nodes
module _ (deepest nodes : ℕ) where
  fits-append : (ds es : List Demand) → fits deepest nodes ds ≡ true → fits deepest nodes (ds ++ es) ≡ fits deepest nodes es
  fits-append [] es h = refl
  fits-append (d ∷ ds) es h = holds_then (leb d.count (budget deepest nodes d.limit)) (fits deepest nodes ds) _ _ _ h (fits-append ds es)

  -- demands that fit settle nothing; one that doesn't settles all, whatever follows
  pub settled-append : {A : Type 0} (ds es : List Demand) (o : Out A (List Node)) → fits deepest nodes ds ≡ true → settled deepest nodes (ds ++ es) o ≡ settled deepest nodes es o
  settled-append [] es o h = refl
  settled-append (d ∷ ds) es o h = holds_then (leb d.count (budget deepest nodes d.limit)) (fits deepest nodes ds) _ _ _ h (settled-append ds es o)

  pub settled-fits : {A : Type 0} (ds : List Demand) (o : Out A (List Node)) → fits deepest nodes ds ≡ true → settled deepest nodes ds o ≡ o
  settled-fits [] o h = refl
  settled-fits (d ∷ ds) o h = holds_then (leb d.count (budget deepest nodes d.limit)) (fits deepest nodes ds) _ _ _ h (settled-fits ds o)

  settled-over : {A : Type 0} (ds es : List Demand) (o o' : Out A (List Node)) → fits deepest nodes ds ≡ false → settled deepest nodes ds o ≡ settled deepest nodes (ds ++ es) o'
  settled-over [] es o o' h = true-false h
  settled-over (d ∷ ds) es o o' h = fails-then (leb d.count (budget deepest nodes d.limit)) (fits deepest nodes ds) _ _ _ h (settled-over ds es o o')

  settled-stops : {A B : Type 0} (ds : List Demand) (o : Out A (List Node)) (o' : Out B (List Node)) (f : A → State → List Node → Out B (List Node)) → fits deepest nodes ds ≡ false → and_then (settled deepest nodes ds o) f ≡ settled deepest nodes ds o'
  settled-stops [] o o' f h = true-false h
  settled-stops (d ∷ ds) o o' f h = stops_then (leb d.count (budget deepest nodes d.limit)) (fits deepest nodes ds) _ _ _ _ f h (settled-stops ds o o' f) refl

  -- one reading after another
  after-fits :
      {A B : Type 0} (r : Reply A) (y : Out A Log) (f : A → State → List Node → Out B (List Node)) (f' : A → State → Log → Out B Log) → fits deepest nodes y.cells.asked ≡ true →
      ((a : A) (st : State) (l : Log) → fits deepest nodes l.asked ≡ true → f a st l.nodes ≡ settle deepest nodes (f' a st l)) →
      onward r y.state y.cells.nodes f ≡ settle deepest nodes (onward r y.state y.cells f')
  after-fits (found a) y f f' h k = k a y.state y.cells h
  after-fits (refused w) y f f' h k = sym (settled-fits y.cells.asked _ h)

  after-over :
      {A B : Type 0} (r : Reply A) (y : Out A Log) (o : Out B (List Node)) (f' : A → State → Log → Out B Log) → fits deepest nodes y.cells.asked ≡ false → ((a : A) (st : State) (l : Log) → Grows l (f' a st l)) →
      settled deepest nodes y.cells.asked o ≡ settle deepest nodes (onward r y.state y.cells f')
  after-over (found a) y o f' h g =
      let r = g a y.state y.cells in
      let z = f' a y.state y.cells in
      settled-over y.cells.asked r.more o (bare z) h ∙ ap (λ (ds : List Demand). settled deepest nodes ds (bare z)) (sym r.is)
  after-over (refused w) y o f' h g = settled-over y.cells.asked [] o (out (refused w) y.state y.cells.nodes) h ∙ ap (λ (ds : List Demand). settled deepest nodes ds (out (refused w) y.state y.cells.nodes)) (append-nil y.cells.asked)

  then-settles :
      {A B : Type 0} (y : Out A Log) (f : A → State → List Node → Out B (List Node)) (f' : A → State → Log → Out B Log) → ((a : A) (st : State) (l : Log) → Grows l (f' a st l)) →
      ((a : A) (st : State) (l : Log) → fits deepest nodes l.asked ≡ true → f a st l.nodes ≡ settle deepest nodes (f' a st l)) →
      and_then (settle deepest nodes y) f ≡ settle deepest nodes (and_then y f')
  then-settles {A} {B} y f f' g k = go (fits deepest nodes y.cells.asked) refl
    where
      go : (b : Bool) → fits deepest nodes y.cells.asked ≡ b → and_then (settle deepest nodes y) f ≡ settle deepest nodes (and_then y f')
      go true h = ap (λ (o : Out A (List Node)). and_then o f) (settled-fits y.cells.asked _ h) ∙ after-fits y.reply y f f' h k
      go false h = let o : Out B (List Node) = out (refused Deep) y.state [] in settled-stops y.cells.asked _ o f h ∙ after-over y.reply y o f' h g

  pick-settles : {A : Type 0} (b : Bool) (x x' : Out A (List Node)) (y y' : Out A Log) → x ≡ settle deepest nodes y → x' ≡ settle deepest nodes y' → pick b x x' ≡ settle deepest nodes (pick b y y')
  pick-settles true x x' y y' p q = p
  pick-settles false x x' y y' p q = q

  shuts-settle :
      (kd : ℕ) (numbers refs : List ℕ) (st : State) (l : Log) → fits deepest nodes l.asked ≡ true →
      shut_nodes deepest nodes kd numbers refs st l.nodes ≡ settle deepest nodes (shut_asking kd numbers refs st l)
  unfolding shut_nodes shut_asking
  shuts-settle kd numbers refs st l h = sym (settled-append l.asked _ _ h)

  module _ {Tag : Type 0} {Ans : Tag → Type 0} (s : List ℕ) (same : Same (List Node)) (rec : Part Tag Ans (List Node)) (rec' : Part Tag Ans Log)
      (grow : (tag : Tag) (st : State) (l : Log) → Grows l (rec' tag st l))
      (reads : (tag : Tag) (st : State) (l : Log) → fits deepest nodes l.asked ≡ true → rec tag st l.nodes ≡ settle deepest nodes (rec' tag st l)) where
    abbrev logged : Same Log
    logged used l = same used l.nodes

    run-settles : {A : Type 0} (p : Program Tag Ans A) (st : State) (l : Log) → fits deepest nodes l.asked ≡ true → run s same (shut_nodes deepest nodes) rec p st l.nodes ≡ settle deepest nodes (run s logged shut_asking rec' p st l)
    unfolding run
    run-settles (ret a) st l h = sym (settled-fits l.asked _ h)
    run-settles fail st l h = sym (settled-fits l.asked _ h)
    run-settles (look k) st l h = run-settles (k s st.at) st l h
    run-settles (when b p q) st l h = pick-settles b _ _ (run s logged shut_asking rec' p st l) (run s logged shut_asking rec' q st l) (run-settles p st l h) (run-settles q st l h)
    run-settles (skip n p) st l h = run-settles p _ l h
    run-settles (recall k) st l h = run-settles (k st.memo) st l h
    run-settles (keep m p) st l h = run-settles p _ l h
    run-settles (store w n p) st l h = run-settles p _ l h
    run-settles (part tag k) st l h = rw (reads tag st l h) (then-settles (rec' tag st l) _ _ (λ a st₁ l₁. run-grows s logged rec' grow (k a) st₁ l₁) (λ a st₁ l₁. run-settles (k a) st₁ l₁))
    run-settles (sub p k) st l h = rw (run-settles p st l h) (then-settles (run s logged shut_asking rec' p st l) _ _ (λ a st₁ l₁. run-grows s logged rec' grow (k a) st₁ l₁) (λ a st₁ l₁. run-settles (k a) st₁ l₁))
    run-settles (node kd numbers refs k) st l h = rw (shuts-settle kd numbers refs st l h) (then-settles (shut_asking kd numbers refs st l) _ _ (λ a st₁ l₁. run-grows s logged rec' grow (k a) st₁ l₁) (λ a st₁ l₁. run-settles (k a) st₁ l₁))

  -- one demand more, after demands that fit
  one-over : {A : Type 0} (ds : List Demand) (d : Demand) (o : Out A (List Node)) → fits deepest nodes ds ≡ true → leb d.count (budget deepest nodes d.limit) ≡ false → settled deepest nodes (ds ++ (d ∷ [])) o ≡ out (refused (name d.limit)) d.state d.nodes
  one-over ds d o h e = settled-append ds (d ∷ []) o h ∙ rw e

  one-fits : (ds : List Demand) (d : Demand) (b : Bool) → fits deepest nodes ds ≡ true → leb d.count (budget deepest nodes d.limit) ≡ b → fits deepest nodes (ds ++ (d ∷ [])) ≡ pick b true false
  one-fits ds d b h e = fits-append ds (d ∷ []) h ∙ rw e

-- parts: where d more may open within the limit, d' more may open within the deepest
module _ {Tag : Type 0} {Ans : Tag → Type 0} (body : (tag : Tag) → Program Tag Ans (Ans tag)) (same : Same (List Node)) (s : List ℕ) (limit nodes : ℕ) (low : limit ≤ deepest_reading) where
  reads-settle :
      (d d' : ℕ) → limit + d' ≡ deepest_reading + d → (tag : Tag) (st : State) (l : Log) → fits limit nodes l.asked ≡ true →
      read_nodes body same s limit nodes d tag st l.nodes ≡ settle limit nodes (read_asking body same s d' tag st l)
  unfolding read_nodes read_asking
  reads-settle zero zero e tag st l h = sym (one-over limit nodes l.asked _ _ h (leb-not (suc deepest_reading) limit (omega arith)))
  reads-settle zero (suc d') e tag st l h =
      let l₁ : Log = asking (deepest_reading - d') st l in
      let z = run s (λ used l. same used l.nodes) shut_asking (read_asking body same s d') (body tag) (opened (deepest_reading - d') st) l₁ in
      let g = run-grows s (λ used l. same used l.nodes) (read_asking body same s d') (reads-grow body same s d') (body tag) (opened (deepest_reading - d') st) l₁ in
      let over : leb (deepest_reading - d') limit ≡ false = leb-not (deepest_reading - d') limit (omega arith) in
      sym (one-over limit nodes l.asked _ (bare z) h over) ∙ settled-over limit nodes l₁.asked g.more (bare z) (bare z) (one-fits limit nodes l.asked _ false h over)
      ∙ ap (λ (ds : List Demand). settled limit nodes ds (bare z)) (sym g.is)
  reads-settle (suc d) zero e tag st l h = absurd (omega arith)
  reads-settle (suc d) (suc d') e tag st l h =
      let o : limit - d ≡ deepest_reading - d' = omega arith in
      let fit : leb (deepest_reading - d') limit ≡ true = le-leb (deepest_reading - d') limit (omega arith) in
      rw o
      (run-settles limit nodes s same (read_nodes body same s limit nodes d) (read_asking body same s d') (reads-grow body same s d') (λ tag st l. reads-settle d d' (omega arith) tag st l) (body tag) (opened (deepest_reading - d') st) (asking (deepest_reading - d') st l)
      (one-fits limit nodes l.asked _ true h fit))

  -- the theorem: a whole reading within budgets is what its demands settle
  pub settles : (tag : Tag) (st : State) → read_nodes body same s limit nodes limit tag st [] ≡ settle limit nodes (asks body same s tag st)
  settles tag st = reads-settle limit deepest_reading (omega arith) tag st (record { nodes = []; asked = [] }) refl

-- the counts of a state are the largest that were asked
pub record Counted (st : State) (l : Log) : Type 0 where
  pub deep : st.deep ≡ most depth l.asked
  pub used : st.used ≡ most room l.asked

most_step : (b : Bool) (c m m₁ m₂ : ℕ) → m ≡ max m₁ m₂ → pick b (max c m) m ≡ max (pick b (max c m₁) m₁) m₂
most_step true c m m₁ m₂ e = omega arith
most_step false c m m₁ m₂ e = e

most-append : (l : Limit) (ds es : List Demand) → most l (ds ++ es) ≡ max (most l ds) (most l es)
most-append l [] es = omega arith
most-append l (d ∷ ds) es = most_step (same-limit l d.limit) d.count _ _ _ (most-append l ds es)

counted-asking : {st st₁ : State} {l : Log} (count : ℕ) → Counted st l → st₁.deep ≡ max st.deep count → st₁.used ≡ st.used → Counted st₁ (asking count st l)
counted-asking {l = l} count c e u = record {
  deep = sym (most-append depth l.asked _ ∙ omega (arith, e, c.deep));
  used = sym (most-append room l.asked _ ∙ omega (arith, u, c.used));
}

then-counted : {A B : Type 0} (r : Reply A) (o : Out A Log) (f : A → State → Log → Out B Log) → Counted o.state o.cells → ((a : A) (st : State) (l : Log) → Counted st l → Counted (f a st l).state (f a st l).cells) → Counted (onward r o.state o.cells f).state (onward r o.state o.cells f).cells
then-counted (found a) o f c k = k a o.state o.cells c
then-counted (refused w) o f c k = c

pick-counted : {A : Type 0} (b : Bool) (x y : Out A Log) → Counted x.state x.cells → Counted y.state y.cells → Counted (pick b x y).state (pick b x y).cells
pick-counted true x y p q = p
pick-counted false x y p q = q

shuts-counted : (kd : ℕ) (numbers refs : List ℕ) (st : State) (l : Log) → Counted st l → Counted (shut_asking kd numbers refs st l).state (shut_asking kd numbers refs st l).cells
unfolding shut_asking
shuts-counted kd numbers refs st l c = record {
  deep = sym (most-append depth l.asked _ ∙ omega (arith, c.deep));
  used = sym (most-append room l.asked _ ∙ omega (arith, c.used));
}

module _ {Tag : Type 0} {Ans : Tag → Type 0} (s : List ℕ) (same : Same Log) (rec : Part Tag Ans Log) (reads : (tag : Tag) (st : State) (l : Log) → Counted st l → Counted (rec tag st l).state (rec tag st l).cells) where
  run-counted : {A : Type 0} (p : Program Tag Ans A) (st : State) (l : Log) → Counted st l → Counted (run s same shut_asking rec p st l).state (run s same shut_asking rec p st l).cells
  unfolding run
  run-counted (ret a) st l c = c
  run-counted fail st l c = c
  run-counted (look k) st l c = run-counted (k s st.at) st l c
  run-counted (when b p q) st l c = pick-counted b _ _ (run-counted p st l c) (run-counted q st l c)
  run-counted (skip n p) st l c = run-counted p _ l (record { deep = c.deep; used = c.used })
  run-counted (recall k) st l c = run-counted (k st.memo) st l c
  run-counted (keep m p) st l c = run-counted p _ l (record { deep = c.deep; used = c.used })
  run-counted (store w n p) st l c = run-counted p _ l (record { deep = c.deep; used = c.used })
  run-counted (part tag k) st l c = then-counted (rec tag st l).reply (rec tag st l) _ (reads tag st l c) (λ a st₁ l₁. run-counted (k a) st₁ l₁)
  run-counted (sub p k) st l c = then-counted (run s same shut_asking rec p st l).reply (run s same shut_asking rec p st l) _ (run-counted p st l c) (λ a st₁ l₁. run-counted (k a) st₁ l₁)
  run-counted (node kd numbers refs k) st l c = then-counted (shut_asking kd numbers refs st l).reply (shut_asking kd numbers refs st l) _ (shuts-counted kd numbers refs st l c) (λ a st₁ l₁. run-counted (k a) st₁ l₁)

module _ {Tag : Type 0} {Ans : Tag → Type 0} (body : (tag : Tag) → Program Tag Ans (Ans tag)) (same : Same (List Node)) (s : List ℕ) where
  reads-counted : (d : ℕ) (tag : Tag) (st : State) (l : Log) → Counted st l → Counted (read_asking body same s d tag st l).state (read_asking body same s d tag st l).cells
  unfolding read_asking
  reads-counted zero tag st l c = counted-asking (suc deepest_reading) c refl refl
  reads-counted (suc d) tag st l c = run-counted s (λ used l. same used l.nodes) (read_asking body same s d) (reads-counted d) (body tag) (opened (deepest_reading - d) st) (asking (deepest_reading - d) st l) (counted-asking (deepest_reading - d) c refl refl)

-- demands fit where the largest of each limit does; where only those of one limit do not, it refuses by its name
abbrev other : Limit → Limit
other depth = room
other room = depth

-- was a budget passed
abbrev passed_by : Refusal → Bool
passed_by Syntax = false
passed_by Deep = true
passed_by Full = true

abbrev pub passed : {A : Type 0} → Reply A → Bool
passed (found a) = false
passed (refused w) = passed_by w

module _ (deepest nodes : ℕ) where
  low_step :
      (b : Bool) (lim : Limit) (c m₁ m₂ : ℕ) → (c ≤ budget deepest nodes lim → b ≡ true) →
      pick (same-limit depth lim) (max c m₁) m₁ ≤ deepest → pick (same-limit room lim) (max c m₂) m₂ ≤ nodes → (b ≡ true) × (m₁ ≤ deepest) × (m₂ ≤ nodes)
  low_step b depth c m₁ m₂ f p q = (f (omega arith), omega arith, q)
  low_step b room c m₁ m₂ f p q = (f (omega arith), p, omega arith)

  low_fits : (ds : List Demand) → most depth ds ≤ deepest → most room ds ≤ nodes → fits deepest nodes ds ≡ true
  low_fits [] p q = refl
  low_fits (d ∷ ds) p q =
      let r = low_step (leb d.count (budget deepest nodes d.limit)) d.limit d.count (most depth ds) (most room ds) (le-leb _ _) p q in
      rw r.0 (low_fits ds r.1 r.2)

  high-step : (b : Bool) (lim : Limit) (c m₁ m₂ : ℕ) (t : Bool) → (b ≡ true → c ≤ budget deepest nodes lim) → (t ≡ true → (m₁ ≤ deepest) × (m₂ ≤ nodes)) → pick b t false ≡ true →
      (pick (same-limit depth lim) (max c m₁) m₁ ≤ deepest) × (pick (same-limit room lim) (max c m₂) m₂ ≤ nodes)
  high-step true depth c m₁ m₂ t f k e = let q : c ≤ deepest = f refl in let r = k e in (omega (arith, r.0), r.1)
  high-step true room c m₁ m₂ t f k e = let q : c ≤ nodes = f refl in let r = k e in (r.0, omega (arith, r.1))
  high-step false lim c m₁ m₂ t f k e = true-false (sym e)

  pub fits_low : (ds : List Demand) → fits deepest nodes ds ≡ true → (most depth ds ≤ deepest) × (most room ds ≤ nodes)
  fits_low [] e = (omega arith, omega arith)
  fits_low (d ∷ ds) e = high-step (leb d.count (budget deepest nodes d.limit)) d.limit d.count (most depth ds) (most room ds) (fits deepest nodes ds) (leb-true _ _) (fits_low ds) e

  named_step :
      {A : Type 0} (l lim : Limit) (b t : Bool) (c m : ℕ) (st : State) (ns : List Node) (o : Out A (List Node)) → (b ≡ false → budget deepest nodes lim < c) →
      (m ≤ budget deepest nodes (other l) → t ≡ false → o.reply ≡ refused (name l)) → pick (same-limit (other l) lim) (max c m) m ≤ budget deepest nodes (other l) → pick b t false ≡ false →
      (pick b o (out (refused (name lim)) st ns)).reply ≡ refused (name l)
  named_step depth depth true t c m st ns o f k p e = k p e
  named_step depth room true t c m st ns o f k p e = k (omega arith) e
  named_step room depth true t c m st ns o f k p e = k (omega arith) e
  named_step room room true t c m st ns o f k p e = k p e
  named_step depth depth false t c m st ns o f k p e = refl
  named_step depth room false t c m st ns o f k p e = let q : nodes < c = f refl in absurd (omega arith)
  named_step room depth false t c m st ns o f k p e = let q : deepest < c = f refl in absurd (omega arith)
  named_step room room false t c m st ns o f k p e = refl

  named : {A : Type 0} (l : Limit) (ds : List Demand) (o : Out A (List Node)) → most (other l) ds ≤ budget deepest nodes (other l) → fits deepest nodes ds ≡ false → (settled deepest nodes ds o).reply ≡ refused (name l)
  named l [] o p e = true-false e
  named l (d ∷ ds) o p e =
      named_step l d.limit (leb d.count (budget deepest nodes d.limit)) (fits deepest nodes ds) d.count (most (other l) ds) d.state d.nodes (settled deepest nodes ds o) (leb-false _ _) (named l ds o) p e

  passed-step : {A : Type 0} (b t : Bool) (lim : Limit) (st : State) (ns : List Node) (o : Out A (List Node)) → (t ≡ false → passed o.reply ≡ true) → pick b t false ≡ false → passed (pick b o (out (refused (name lim)) st ns)).reply ≡ true
  passed-step true t lim st ns o k e = k e
  passed-step false t depth st ns o k e = refl
  passed-step false t room st ns o k e = refl

  over-passes : {A : Type 0} (ds : List Demand) (o : Out A (List Node)) → fits deepest nodes ds ≡ false → passed (settled deepest nodes ds o).reply ≡ true
  over-passes [] o e = true-false e
  over-passes (d ∷ ds) o e = passed-step (leb d.count (budget deepest nodes d.limit)) (fits deepest nodes ds) d.limit d.state d.nodes (settled deepest nodes ds o) (over-passes ds o) e

-- a whole reading, from a start with no counts
module _ {Tag : Type 0} {Ans : Tag → Type 0} (body : (tag : Tag) → Program Tag Ans (Ans tag)) (same : Same (List Node)) (s : List ℕ) (tag : Tag) (st : State) (no-deep : st.deep ≡ 0) (no-used : st.used ≡ 0) where
  abbrev own : Out (Ans tag) Log
  own = asks body same s tag st

  abbrev whole : ℕ → ℕ → Out (Ans tag) (List Node)
  whole limit nodes = read_nodes body same s limit nodes limit tag st []

  pub reports : Counted own.state own.cells
  reports = reads-counted body same s deepest_reading tag st (record { nodes = []; asked = [] }) (record { deep = no-deep; used = no-used })

  -- budgets that hold the counts leave the reading as it is
  pub suffices : (limit nodes : ℕ) → limit ≤ deepest_reading → own.state.deep ≤ limit → own.state.used ≤ nodes → whole limit nodes ≡ bare own
  suffices limit nodes low p q =
      settles body same s limit nodes low tag st
      ∙ settled-fits limit nodes own.cells.asked _ (low_fits limit nodes own.cells.asked (rw reports.deep at p) (rw reports.used at q))

  -- a budget below its count refuses by its name, where the other holds
  below : (l : Limit) (limit nodes : ℕ) → limit ≤ deepest_reading → budget limit nodes l < most l own.cells.asked → most (other l) own.cells.asked ≤ budget limit nodes (other l) → (whole limit nodes).reply ≡ refused (name l)
  below l limit nodes low p q =
      ap (λ (o : Out (Ans tag) (List Node)). o.reply) (settles body same s limit nodes low tag st)
      ∙ named limit nodes l own.cells.asked _ q (not-true _ (λ e. over l (fits_low limit nodes own.cells.asked e) p))
    where
      over : (l : Limit) → (most depth own.cells.asked ≤ limit) × (most room own.cells.asked ≤ nodes) → budget limit nodes l < most l own.cells.asked → ⊥
      over depth r p = omega (arith, r.0)
      over room r p = omega (arith, r.1)

  pub shallow : (limit nodes : ℕ) → limit ≤ deepest_reading → limit < own.state.deep → own.state.used ≤ nodes → (whole limit nodes).reply ≡ refused Deep
  shallow limit nodes low p q = below depth limit nodes low (rw reports.deep at p) (rw reports.used at q)

  pub cramped : (limit nodes : ℕ) → limit ≤ deepest_reading → own.state.deep ≤ limit → nodes < own.state.used → (whole limit nodes).reply ≡ refused Full
  cramped limit nodes low p q = below room limit nodes low (rw reports.used at q) (rw reports.deep at p)

  -- a call that is not refused for depth or room is the reading itself, and its counts are within its budgets
  pub stands : (limit nodes : ℕ) → limit ≤ deepest_reading → passed (whole limit nodes).reply ≡ false → (own.state.deep ≤ limit) × (own.state.used ≤ nodes)
  stands limit nodes low h = go (fits limit nodes own.cells.asked) refl
    where
      go : (b : Bool) → fits limit nodes own.cells.asked ≡ b → (own.state.deep ≤ limit) × (own.state.used ≤ nodes)
      go true e = rw (reports.deep, reports.used) (fits_low limit nodes own.cells.asked e)
      go false e = true-false (sym (ap (λ (o : Out (Ans tag) (List Node)). passed o.reply) (settles body same s limit nodes low tag st) ∙ over-passes limit nodes own.cells.asked _ e) ∙ h)
