-- Ordered choice: what a lower crate decides by `spelled`, the word `ordered` decides alike.
--     spelled-chosen    `spelled` answers by the spelling that is chosen
--     ordered-chosen    `ordered` goes on by the same one
--     ordered-decided   so where `spelled` answers with a value and the bytes taken, `ordered` goes on by that value behind those bytes
-- Assumes nothing.
use Prim.Native.Nat.{ℕ, ◌+◌}
use Prim.Native.String.{String}
use mathlib.Core.Path.{◌≡◌, refl, sym, ap, ◌∙◌}
use mathlib.Core.List.{List, [], ◌∷◌}
use mathlib.Core.Bool.{Bool, true, false}
use native.Mathlib.Nat.{add-zero}
use lib.ListN.{length, drop}
use Rattle.scan.specs.Bytes.{pick, bytes, starts, spelled}
use Rattle.grammar.specs.Program.{Program, skip, Out, Part, Shut, Same, run, at+}
use Rattle.grammar.specs.Words.{ordered}
use Rattle.grammar.specs.declared.State.{State}

-- the entry that decides, and the bytes that it takes; or none stands here
pub data Choice (X : Type 0) : Type 0 where
  entry : X → ℕ → Choice X
  none : Choice X

abbrev pub chosen : {X : Type 0} → List (String × X) → List ℕ → Choice X
chosen [] r = none
chosen ((t, x) ∷ ts) r = pick (starts (bytes t) r) (entry x (length (bytes t))) (chosen ts r)

abbrev pub chosen_or : {X A : Type 0} → (X → ℕ → A) → A → Choice X → A
chosen_or make other (entry x n) = make x n
chosen_or make other none = other

chosen-step : {X A : Type 0} (make : X → ℕ → A) (other : A) (b : Bool) (x : X) (n : ℕ) (c : Choice X) (a : A) → a ≡ chosen_or make other c → pick b (make x n) a ≡ chosen_or make other (pick b (entry x n) c)
chosen-step make other true x n c a e = refl
chosen-step make other false x n c a e = e

pub spelled-chosen : {X A : Type 0} (make : X → ℕ → A) (table : List (String × X)) (other : A) (r : List ℕ) → spelled make table other r ≡ chosen_or make other (chosen table r)
spelled-chosen make [] other r = refl
spelled-chosen make ((t, x) ∷ ts) other r = chosen-step make other (starts (bytes t) r) x (length (bytes t)) (chosen ts r) _ (spelled-chosen make ts other r)

pub at_none : (st : State) → at+ 0 st ≡ st
at_none st = let e : st.at + 0 ≡ st.at = add-zero st.at in ap (λ (x : ℕ). record { at = x; used = st.used; deep = st.deep; memo = st.memo }) e

module _ {Tag T : Type 0} {Ans : Tag → Type 0} (s : List ℕ) (same : Same T) (shut : Shut T) (rec : Part Tag Ans T) where
  -- the entry's bytes are taken, and what belongs to it is read; or p is
  abbrev pub run_chosen : {X A : Type 0} → (X → Program Tag Ans A) → Program Tag Ans A → Choice X → State → T → Out A T
  run_chosen k p (entry x n) st t = run s same shut rec (skip n (k x)) st t
  run_chosen k p none st t = run s same shut rec p st t

  run_step :
      {X A : Type 0} (k : X → Program Tag Ans A) (p : Program Tag Ans A) (b : Bool) (x : X) (n : ℕ) (c : Choice X) (st : State) (t : T) (o : Out A T) → o ≡ run_chosen k p c st t →
      pick b (run s same shut rec (skip n (k x)) st t) o ≡ run_chosen k p (pick b (entry x n) c) st t
  run_step k p true x n c st t o e = refl
  run_step k p false x n c st t o e = e

  pub ordered-chosen : {X A : Type 0} (table : List (String × X)) (k : X → Program Tag Ans A) (p : Program Tag Ans A) (st : State) (t : T) → run s same shut rec (ordered table k p) st t ≡ run_chosen k p (chosen table (drop st.at s)) st t
  unfolding run
  ordered-chosen [] k p st t = refl
  ordered-chosen ((w, x) ∷ ts) k p st t = run_step k p (starts (bytes w) (drop st.at s)) x (length (bytes w)) (chosen ts (drop st.at s)) st t _ (ordered-chosen ts k p st t)

  -- where no byte is taken
  pub no_bytes : {A : Type 0} (p : Program Tag Ans A) (st : State) (t : T) → run s same shut rec p st t ≡ run s same shut rec p (at+ 0 st) t
  no_bytes p st t = let e : at+ 0 st ≡ st = at_none st in ap (λ (x : State). run s same shut rec p x t) (sym e)

  -- an answer of which the value and the bytes taken are known
  module _ {X A B : Type 0} (make : X → ℕ → B) (value : B → X) (taken : B → ℕ) (says : (x : X) (n : ℕ) → (value (make x n) ≡ x) × (taken (make x n) ≡ n)) (k : X → Program Tag Ans A) where
    -- what is read of an answer
    abbrev pub follows : B → State → T → Out A T
    follows b st t = run s same shut rec (k (value b)) (at+ (taken b) st) t

    follows-make : (x : X) (n : ℕ) (st : State) (t : T) → run s same shut rec (skip n (k x)) st t ≡ follows (make x n) st t
    unfolding run
    follows-make x n st t = rw ((says x n).0, (says x n).1)

    -- where none stands, p has to be what is read of the other answer
    decided-step : (p : Program Tag Ans A) (other : B) (c : Choice X) (st : State) (t : T) → (c ≡ none → run s same shut rec p st t ≡ follows other st t) → run_chosen k p c st t ≡ follows (chosen_or make other c) st t
    decided-step p other (entry x n) st t h = follows-make x n st t
    decided-step p other none st t h = h refl

    pub ordered-decided :
        (table : List (String × X)) (p : Program Tag Ans A) (other : B) (st : State) (t : T) → (chosen table (drop st.at s) ≡ none → run s same shut rec p st t ≡ follows other st t) →
        run s same shut rec (ordered table k p) st t ≡ follows (spelled make table other (drop st.at s)) st t
    ordered-decided table p other st t h =
        ordered-chosen table k p st t ∙ decided-step p other (chosen table (drop st.at s)) st t h
        ∙ ap (λ (b : B). follows b st t) (sym (spelled-chosen make table other (drop st.at s)))
