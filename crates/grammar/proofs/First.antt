-- The first demand that passes its limit decides a reading within budgets, for every grammar.
--     settled-first    where a demand is the first to pass, the reading is refused by its name, in its state
--     first-over       where some demand passes, there is a first
--     stopped          a reading within no budget is refused for depth only past the deepest reading
-- Assumes nothing.
use Prim.Native.Nat.{ℕ, zero, suc, ◌-◌, ◌<◌}
use mathlib.Core.Bool.{Bool, true, false}
use mathlib.Core.Path.{◌≡◌, refl, sym, ap, ◌∙◌}
use mathlib.Core.List.{List, [], ◌∷◌}
use native.Mathlib.Omega.{arith}
use borrow.Author.Tests.{leb-false, lt-leb}
use lib.Dec.{leb}
use Rattle.scan.specs.Bytes.{pick}
use Rattle.grammar.specs.Program.{Program, ret, fail, look, when, skip, recall, keep, store, part, sub, node, Reply, found, refused, Out, out, onward, Part, Same, run}
use Rattle.grammar.specs.Counts.{Node, Demand, Log, budget, name, settled, fits, First, opened, asking, shut_asking, read_asking, asks}
use Rattle.grammar.specs.declared.State.{State}
use Rattle.grammar.proofs.Demands.{true-false, settled-append, passed}
use Rattle.scan.specs.Limits.{deepest_reading}

module _ (deepest most : ℕ) where
  pub settled-first : {A : Type 0} {ds : List Demand} {d : Demand} (o : Out A (List Node)) → First deepest most ds d → settled deepest most ds o ≡ out (refused (name d.limit)) d.state d.nodes
  settled-first {A} {ds} {d} o w =
      ap (λ (x : List Demand). settled deepest most x o) w.is ∙ settled-append deepest most w.before (d ∷ w.after) o w.hold
      ∙ rw (lt-leb d.count (budget deepest most d.limit) w.passes)

  -- one more demand that holds stands before
  later : {ds : List Demand} (d : Demand) → leb d.count (budget deepest most d.limit) ≡ true → (e : Demand) × First deepest most ds e → (e : Demand) × First deepest most (d ∷ ds) e
  later d h (e, w) = (e, record { before = d ∷ w.before; after = w.after; is = ap (λ (x : List Demand). d ∷ x) w.is; hold = rw h w.hold; passes = w.passes })

  first_step : {ds : List Demand} (d : Demand) (b : Bool) → leb d.count (budget deepest most d.limit) ≡ b → pick b (fits deepest most ds) false ≡ false → (fits deepest most ds ≡ false → (e : Demand) × First deepest most ds e) → (e : Demand) × First deepest most (d ∷ ds) e
  first_step {ds} d true h e k = later d h (k e)
  first_step {ds} d false h e k = (d, record { before = []; after = ds; is = refl; hold = refl; passes = leb-false _ _ h })

  pub first-over : (ds : List Demand) → fits deepest most ds ≡ false → (d : Demand) × First deepest most ds d
  first-over [] e = true-false e
  first-over (d ∷ ds) e = first_step d (leb d.count (budget deepest most d.limit)) refl e (first-over ds)

-- within no budget a reading is refused for depth or room only past the deepest reading
abbrev Stops : {A : Type 0} → Reply A → State → Type 0
Stops r st = passed r ≡ true → deepest_reading < st.deep

then-stops : {A B : Type 0} (r : Reply A) (o : Out A Log) (f : A → State → Log → Out B Log) → Stops r o.state → ((a : A) (st : State) (l : Log) → Stops (f a st l).reply (f a st l).state) → Stops (onward r o.state o.cells f).reply (onward r o.state o.cells f).state
then-stops (found a) o f c k = k a o.state o.cells
then-stops (refused w) o f c k = c

pick-stops : {A : Type 0} (b : Bool) (x y : Out A Log) → Stops x.reply x.state → Stops y.reply y.state → Stops (pick b x y).reply (pick b x y).state
pick-stops true x y p q = p
pick-stops false x y p q = q

module _ {Tag : Type 0} {Ans : Tag → Type 0} (s : List ℕ) (same : Same Log) (rec : Part Tag Ans Log) (reads : (tag : Tag) (st : State) (l : Log) → Stops (rec tag st l).reply (rec tag st l).state) where
  run-stops : {A : Type 0} (p : Program Tag Ans A) (st : State) (l : Log) → Stops (run s same shut_asking rec p st l).reply (run s same shut_asking rec p st l).state
  unfolding run shut_asking
  run-stops (ret a) st l = λ e. true-false (sym e)
  run-stops fail st l = λ e. true-false (sym e)
  run-stops (look k) st l = run-stops (k s st.at) st l
  run-stops (when b p q) st l = pick-stops b _ _ (run-stops p st l) (run-stops q st l)
  run-stops (skip n p) st l = run-stops p _ l
  run-stops (recall k) st l = run-stops (k st.memo) st l
  run-stops (keep m p) st l = run-stops p _ l
  run-stops (store w n p) st l = run-stops p _ l
  run-stops (part tag k) st l = then-stops (rec tag st l).reply (rec tag st l) _ (reads tag st l) (λ a st₁ l₁. run-stops (k a) st₁ l₁)
  run-stops (sub p k) st l = then-stops (run s same shut_asking rec p st l).reply (run s same shut_asking rec p st l) _ (run-stops p st l) (λ a st₁ l₁. run-stops (k a) st₁ l₁)
  run-stops (node kd numbers refs k) st l = run-stops (k st.used) _ _

module _ {Tag : Type 0} {Ans : Tag → Type 0} (body : (tag : Tag) → Program Tag Ans (Ans tag)) (same : Same (List Node)) (s : List ℕ) where
  reads-stop : (d : ℕ) (tag : Tag) (st : State) (l : Log) → Stops (read_asking body same s d tag st l).reply (read_asking body same s d tag st l).state
  unfolding read_asking
  reads-stop zero tag st l = λ e. omega arith
  reads-stop (suc d) tag st l = run-stops s (λ used l. same used l.nodes) (read_asking body same s d) (reads-stop d) (body tag) (opened (deepest_reading - d) st) (asking (deepest_reading - d) st l)

  pub stopped : (tag : Tag) (st : State) → passed (asks body same s tag st).reply ≡ true → deepest_reading < (asks body same s tag st).state.deep
  stopped tag st = reads-stop deepest_reading tag st (record { nodes = []; asked = [] })
