-- The turns of a list never run out: each takes a byte, so where there are more of them than bytes are left, their number changes nothing.
--     scope-turns, params-turns    of any two numbers of turns, from any state
--     more-turns                   so no more than those that the grammar gives are ever of use
--     NAME-lawful                  what is asked of a reading for that, and for the laws on the memo; each of the three has it
-- Assumes nothing.
use Prim.Native.Nat.{ℕ, zero, suc, ◌+◌, ◌-◌, ◌*◌, ◌<◌, ◌≤◌}
use mathlib.Core.Path.{◌≡◌, refl}
use mathlib.Core.List.{List, [], ◌∷◌}
use mathlib.Core.Bool.{Bool, true, false}
use native.Mathlib.Decide.{dec_lt}
use native.Mathlib.Omega.{arith}
use borrow.Author.Tests.{leb-false}
use lib.ListN.{length, drop}
use lib.Seq.{drop-nil}
use lib.Dec.{leb}
use Rattle.scan.specs.Bytes.{pick, bytes, starts, is_digit}
use Rattle.scan.specs.Name.{string_from}
use Rattle.grammar.specs.Program.{Reply, found, refused, Out, onward, Part, Shut, Same, run}
use Rattle.grammar.specs.Words.{byte_at, ◌>>=◌, digit}
use Rattle.grammar.specs.Counts.{Node, opened, asking, shut_nodes, read_nodes, shut_asking, read_asking}
use Rattle.grammar.specs.Table.{shut_table, same_table, read_table}
use Rattle.grammar.specs.Grammar.{Tag, Ans, Nested, Reading, place, nested_name, scope_from, stored_param, new_param, params_from, plain_name, nested_body, body}
use Rattle.node.specs.Kind.{Kind, NamePlace, TypePlace}
use Rattle.grammar.specs.declared.State.{State}
use Rattle.grammar.specs.declared.Refusal.{Refusal}
use Rattle.grammar.specs.declared.Refusal.TheVariants.{Syntax}
use Rattle.grammar.proofs.Calm.{IfFound}
use Rattle.grammar.proofs.Funded.{looks, ends, chooses, stores, digit-inside}
use Rattle.grammar.proofs.Paid.{promise, Earns, nesteds, var_types, type-refs, funded}
use Rattle.grammar.proofs.Memos.{Steady, nodes-steady, asking-steady, table-steady}
use Rattle.grammar.proofs.Moves.{Reaches, pick-reaches, Moving, Gains, earned, then-gains, node-gains, digit-gains, then-alike, nodes-move, asking-moves, table-moves}
use Rattle.scan.specs.Limits.{deepest_reading}

pick-alike : {A : Type 0} (b : Bool) (x y y' : A) → (b ≡ false → y ≡ y') → pick b x y ≡ pick b x y'
pick-alike true x y y' e = refl
pick-alike false x y y' e = e refl

drop_all : (s : List ℕ) (at : ℕ) → length s ≤ at → drop at s ≡ []
drop_all [] at l = drop-nil at
drop_all (x ∷ s) zero l = absurd (omega arith)
drop_all (x ∷ s) (suc at) l = drop_all s at (omega arith)

-- past the symbol's end no nested name is read
abbrev pub Ending : {T : Type 0} → List ℕ → Part Tag Ans T → Type 0
Ending {T} s rec = (st : State) (t : T) → length s ≤ st.at → IfFound (rec Nested st t).reply (λ a. ⊥)

-- what is asked of a reading: a node that closes changes neither the place nor the memo, parts keep what their tags promise, and past the end none is read
pub record Lawful {T : Type 0} (s : List ℕ) (shut : Shut T) (rec : Part Tag Ans T) : Type 0 where
  pub steady : Steady shut
  pub moving : Moving s promise rec
  pub ending : Ending s rec

none : {A : Type 0} {w : Refusal} {r : Reply A} → r ≡ refused w → IfFound r (λ a. ⊥)
none e = rw e tt

none-reaches : {A B T : Type 0} {s : List ℕ} {m : ℕ} (r : Reply A) (st : State) (t : T) (f : A → State → T → Out B T) → IfFound r (λ a. ⊥) → Reaches s m (onward r st t f)
none-reaches (found a) st t f h = absurd h
none-reaches (refused w) st t f h = record { end = tt }

module _ {T : Type 0} (s : List ℕ) (same : Same T) (shut : Shut T) (rec : Part Tag Ans T) where
  nested-ends : (st : State) (t : T) → length s ≤ st.at → (run s same shut rec nested_body st t).reply ≡ refused Syntax
  unfolding run nested_body plain_name string_from
  nested-ends st t l = let e : drop st.at s ≡ [] = drop_all s st.at l in rw e

module _ {T : Type 0} (s : List ℕ) (same : Same T) (shut : Shut T) (rec : Part Tag Ans T) (lawful : Lawful s shut rec) where
  abbrev Gained : {A : Type 0} → ℕ → Reading A → Type 0
  Gained n p = Gains s same shut rec n p

  -- a program gains what its bytes earn beyond its nodes; one that closes a place gains more, by node-gains
  earns : {A : Type 0} {n : ℕ} {p : Reading A} → Earns s 0 n p → Gained n p
  earns {p = p} f = earned s promise same shut rec lawful.steady lawful.moving p f

  places : (k : Kind) (entry last : ℕ) → Gained 0 (place k entry last)
  places k entry last = then-gains 0 0 (node-gains lawful.steady) (λ p. earns (ends (omega arith)))

  stored-gains : (last i : ℕ) → Gained 0 (stored_param last i)
  unfolding stored_param
  stored-gains last i = then-gains 0 0 (earns (type-refs s i (omega arith))) (λ t. places TypePlace t last)

  new-gains : (last : ℕ) → Gained 1 (new_param last)
  unfolding new_param
  new-gains last =
      then-gains 0 1 (earns (looks (λ at. ends (omega arith))))
      (λ from. then-gains 1 0 (earns (var_types s 0 (omega arith)))
      (λ t. then-gains 0 0 (earns (looks (λ at. ends (omega arith))))
      (λ end. then-gains 0 0 (earns (chooses (stores (ends (omega arith))) (ends (omega arith))))
      (λ u. places TypePlace t last))))

  nested-past : (st : State) (t : T) → length s ≤ st.at → Reaches s (2 * st.at + 1) (run s same shut rec nested_name st t)
  unfolding run
  nested-past st t l =
      pick-reaches (is_digit (byte_at s st.at)) _ _ (λ e. absurd (omega (arith, digit-inside s st.at e)))
      (λ e. let o = rec Nested st t in none-reaches o.reply o.state o.cells _ (lawful.ending st t l))

  nested-reaches : (st : State) (t : T) → Reaches s (2 * st.at + 1) (run s same shut rec nested_name st t)
  nested-reaches st t = go (dec_lt st.at (length s))
    where
      go : Dec (st.at < length s) → Reaches s (2 * st.at + 1) (run s same shut rec nested_name st t)
      go (yes l) = (earned s promise same shut rec lawful.steady lawful.moving nested_name (nesteds s {c = 0} {g = 1} (omega arith))).by st t (omega arith)
      go (no l) = nested-past st t (omega (arith, l))

  -- a turn takes a byte
  pub scope-turns :
      (turns turns' last : ℕ) (st : State) (t : T) → length s - st.at < turns → length s - st.at < turns' →
      run s same shut rec (scope_from turns last) st t ≡ run s same shut rec (scope_from turns' last) st t
  unfolding run scope_from
  scope-turns zero turns' last st t l l' = absurd (omega arith)
  scope-turns (suc turns) zero last st t l l' = absurd (omega arith)
  scope-turns (suc turns) (suc turns') last st t l l' =
      pick-alike (starts (bytes "@") (drop st.at s)) _ _ _
      (λ e. then-alike s same shut rec nested_name (λ n. place NamePlace n last >>= scope_from turns) (λ n. place NamePlace n last >>= scope_from turns') st t (nested-reaches st t)
      (λ n st₁ t₁ h₁. then-alike s same shut rec (place NamePlace n last) (scope_from turns) (scope_from turns') st₁ t₁ ((places NamePlace n last).by st₁ t₁ h₁.1)
      (λ next st₂ t₂ h₂. scope-turns turns turns' next st₂ t₂ (omega (arith, h₁, h₂)) (omega (arith, h₁, h₂)))))

  pub params-turns :
      (turns turns' last : ℕ) (st : State) (t : T) → length s - st.at < turns → length s - st.at < turns' →
      run s same shut rec (params_from turns last) st t ≡ run s same shut rec (params_from turns' last) st t
  unfolding run params_from
  params-turns zero turns' last st t l l' = absurd (omega arith)
  params-turns (suc turns) zero last st t l l' = absurd (omega arith)
  params-turns (suc turns) (suc turns') last st t l l' =
      pick-alike (starts (bytes "@") (drop st.at s)) _ _ _
      (λ e. pick-alike (starts (bytes "Z") (drop st.at s)) _ _ _
      (λ e. pick-alike (leb (length s) st.at) _ _ _
      (λ e. let i : st.at < length s = leb-false (length s) st.at e in then-alike s same shut rec (digit (stored_param last) (new_param last)) (params_from turns) (params_from turns') st t ((digit-gains (stored_param last) (stored-gains last) (new-gains last)).by st t (omega arith))
      (λ next st₁ t₁ h. params-turns turns turns' next st₁ t₁ (omega (arith, h)) (omega (arith, h))))))

  -- k more than the grammar gives
  pub more-turns :
      (k last : ℕ) (st : State) (t : T) →
      (run s same shut rec (scope_from (length s - st.at + 1 + k) last) st t ≡ run s same shut rec (scope_from (length s - st.at + 1) last) st t)
      × (run s same shut rec (params_from (length s - st.at + 1 + k) last) st t ≡ run s same shut rec (params_from (length s - st.at + 1) last) st t)
  more-turns k last st t = (scope-turns (length s - st.at + 1 + k) (length s - st.at + 1) last st t (omega arith) (omega arith), params-turns (length s - st.at + 1 + k) (length s - st.at + 1) last st t (omega arith) (omega arith))

-- the readings
module _ (s : List ℕ) where
  nodes-end : (same : Same (List Node)) (limit room d : ℕ) → Ending s (read_nodes body same s limit room d)
  unfolding read_nodes body
  nodes-end same limit room zero st ns l = tt
  nodes-end same limit room (suc d) st ns l = none (nested-ends s same (shut_nodes limit room) (read_nodes body same s limit room d) (opened (limit - d) st) ns l)

  asking-ends : (same : Same (List Node)) (d : ℕ) → Ending s (read_asking body same s d)
  unfolding read_asking body
  asking-ends same zero st l i = tt
  asking-ends same (suc d) st l i = none (nested-ends s (λ used l. same used l.nodes) shut_asking (read_asking body same s d) (opened (deepest_reading - d) st) (asking (deepest_reading - d) st l) i)

  table-ends : (limit room d : ℕ) → Ending s (read_table body s limit room d)
  unfolding read_table body
  table-ends limit room zero st t l = tt
  table-ends limit room (suc d) st t l = none (nested-ends s (same_table s) (shut_table limit room) (read_table body s limit room d) (opened (limit - d) st) t l)

  pub nodes-lawful : (same : Same (List Node)) (limit room d : ℕ) → Lawful s (shut_nodes limit room) (read_nodes body same s limit room d)
  nodes-lawful same limit room d = record { steady = nodes-steady limit room; moving = nodes-move body s promise (funded s) same limit room d; ending = nodes-end same limit room d }

  pub asking-lawful : (same : Same (List Node)) (d : ℕ) → Lawful s shut_asking (read_asking body same s d)
  asking-lawful same d = record { steady = asking-steady; moving = asking-moves body s promise (funded s) same d; ending = asking-ends same d }

  pub table-lawful : (limit room d : ℕ) → Lawful s (shut_table limit room) (read_table body s limit room d)
  table-lawful limit room d = record { steady = table-steady limit room; moving = table-moves body s promise (funded s) limit room d; ending = table-ends limit room d }
