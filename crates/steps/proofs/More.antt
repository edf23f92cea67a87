-- More rules for readers: the place and the memo, programs in another order of brackets, the dimensions of an array.
-- Assumes nothing.
use Prim.Native.Nat.{ℕ, zero, suc, ◌-◌, ◌<◌, ◌≤◌}
use mathlib.Core.Path.{◌≡◌, refl, sym, ap, ◌∙◌}
use mathlib.Core.List.{List}
use mathlib.Core.Bool.{Bool, true, false}
use native.Mathlib.Omega.{arith}
use Rattle.std.specs.Prelude.{Result, Ok, Err}
use Rattle.grammar.specs.Program.{ret, when, part, sub, found, refused, Reply, Out, onward, run, with}
use Rattle.grammar.specs.Words.{here, memo, set_memo, refuse_if}
use Rattle.grammar.specs.Grammar.{Dimension, Reading, nested_array, element}
use Rattle.grammar.specs.declared.Memo.{Memo}
use Rattle.grammar.specs.declared.State.{State}
use Rattle.grammar.specs.declared.Refusal.{Refusal}
use Rattle.grammar.specs.declared.Refusal.TheVariants.{Syntax}
use Rattle.steps.specs.Does.{runs, Does, Leads}
use Rattle.steps.specs.declared.reader.Reader.{Reader}

pub onward-assoc :
    {A B C T : Type 0} (r : Reply C) (st : State) (t : T) (f : C → State → T → Out B T) (h : B → State → T → Out A T) →
    onward (onward r st t f).reply (onward r st t f).state (onward r st t f).cells h ≡ onward r st t (λ c st t. onward (f c st t).reply (f c st t).state (f c st t).cells h)
onward-assoc (found c) st t f h = refl
onward-assoc (refused why) st t f h = refl

module _ {r : Reader} {d : ℕ} where
  pub does-as : {A : Type 0} {p q : Reading A} {g : Result A Refusal} {st st' : State} {t t' : List ℕ} → p ≡ q → Does r d q st t g st' t' → Does r d p st t g st' t'
  does-as {st = st} {t = t} e h = record { is = h.is ∙ ap (λ p. runs r.s.now r.depth r.room d p st t) (sym e) }

  -- what goes on from a later state, and a refusal there
  pub does-leads :
      {A X : Type 0} {p : Reading A} {k : X → Reading A} {x : X} {f : Result X Refusal} {g : Result A Refusal} {st st₁ st' : State} {t t' : List ℕ} →
      Leads r.s.now p st k f st₁ → f ≡ Ok x → Does r d (k x) st₁ t g st' t' → Does r d p st t g st' t'
  does-leads {t = t} l e h = let q = l.is r.depth r.room d t in record { is = h.is ∙ (rw e at q) }

  pub leads-refused : {A X : Type 0} {p : Reading A} {k : X → Reading A} {why : Refusal} {f : Result X Refusal} {g : Result A Refusal} {st st' : State} {t : List ℕ} → Leads r.s.now p st k f st' → f ≡ Err why → g ≡ Err why → Does r d p st t g st' t
  leads-refused {t = t} l e h = let q = l.is r.depth r.room d t in record { is = rw h (rw e at q) }

  -- the place, the memo
  pub does-here : {A : Type 0} {k : ℕ → Reading A} {g : Result A Refusal} {st st' : State} {t t' : List ℕ} → Does r d (k st.at) st t g st' t' → Does r d (sub here k) st t g st' t'
  unfolding run
  does-here h = record { is = h.is }

  pub does-memo : {A : Type 0} {k : Memo → Reading A} {g : Result A Refusal} {st st' : State} {t t' : List ℕ} → Does r d (k st.memo) st t g st' t' → Does r d (sub memo k) st t g st' t'
  unfolding run
  does-memo h = record { is = h.is }

  pub does-set :
      {A : Type 0} {m : Memo} {q : Reading A} {g : Result A Refusal} {st st₁ st' : State} {t t' : List ℕ} →
      st₁ ≡ with m st → Does r d q st₁ t g st' t' → Does r d (sub (set_memo m) (λ _. q)) st t g st' t'
  unfolding run
  does-set {q = q} {t = t} e h = record { is = h.is ∙ ap (λ (x : State). runs r.s.now r.depth r.room d q x t) e }

  pub does-assoc :
      {A B C : Type 0} {p : Reading C} {k : C → Reading B} {h : B → Reading A} {g : Result A Refusal} {st st' : State} {t t' : List ℕ} →
      Does r d (sub (sub p k) h) st t g st' t' → Does r d (sub p (λ c. sub (k c) h)) st t g st' t'
  unfolding run
  does-assoc {p = p} {k = k} {h = h} {st = st} {t = t} q =
      record { is = q.is ∙ onward-assoc (runs r.s.now r.depth r.room d p st t).reply (runs r.s.now r.depth r.room d p st t).state (runs r.s.now r.depth r.room d p st t).cells (λ c st t. runs r.s.now r.depth r.room d (k c) st t) (λ b st t. runs r.s.now r.depth r.room d (h b) st t) }

  -- a program before another, brackets first: an answer of the inner one, and a refusal
  pub does-inner :
      {A B C : Type 0} {p : Reading C} {k : C → Reading B} {h : B → Reading A} {g : Result A Refusal} {st st' : State} {t t' : List ℕ} →
      Does r d (sub p (λ c. sub (k c) h)) st t g st' t' → Does r d (sub (sub p k) h) st t g st' t'
  unfolding run
  does-inner {p = p} {k = k} {h = h} {st = st} {t = t} q =
      record { is = q.is ∙ sym (onward-assoc (runs r.s.now r.depth r.room d p st t).reply (runs r.s.now r.depth r.room d p st t).state (runs r.s.now r.depth r.room d p st t).cells (λ c st t. runs r.s.now r.depth r.room d (k c) st t) (λ b st t. runs r.s.now r.depth r.room d (h b) st t)) }

  -- an answer that is there, a choice that goes on
  pub does-given : {A B : Type 0} {b : B} {k : B → Reading A} {g : Result A Refusal} {st st' : State} {t t' : List ℕ} → Does r d (k b) st t g st' t' → Does r d (sub (ret b) k) st t g st' t'
  unfolding run
  does-given h = record { is = h.is }

  pub does-chosen : {A B : Type 0} {b : Bool} {p q : Reading B} {k : B → Reading A} {g : Result A Refusal} {st st' : State} {t t' : List ℕ} → b ≡ true → Does r d (sub p k) st t g st' t' → Does r d (sub (when b p q) k) st t g st' t'
  unfolding run
  does-chosen e h = record { is = rw e h.is }

  pub does-other : {A B : Type 0} {b : Bool} {p q : Reading B} {k : B → Reading A} {g : Result A Refusal} {st st' : State} {t t' : List ℕ} → b ≡ false → Does r d (sub q k) st t g st' t' → Does r d (sub (when b p q) k) st t g st' t'
  unfolding run
  does-other e h = record { is = rw e h.is }

  -- a test that refuses
  pub does-refuse : {A : Type 0} {b : Bool} {q : Reading A} {st : State} {t : List ℕ} → b ≡ true → Does r d (sub (refuse_if b) (λ _. q)) st t (Err Syntax) st t
  unfolding run
  does-refuse e = record { is = rw e }

  pub does-pass : {A : Type 0} {b : Bool} {q : Reading A} {g : Result A Refusal} {st st' : State} {t t' : List ℕ} → b ≡ false → Does r d q st t g st' t' → Does r d (sub (refuse_if b) (λ _. q)) st t g st' t'
  unfolding run
  does-pass e h = record { is = rw e h.is }

-- an inner dimension is a part, and inside the last one is the element
nested-some : (n : ℕ) → 0 < n → nested_array n ≡ part (Dimension n) ret
nested-some zero h = absurd (omega arith)
nested-some (suc n) h = refl

pub nested-more : (n : ℕ) → 1 < n → nested_array (n - 1) ≡ part (Dimension (n - 1)) ret
nested-more n h = nested-some (n - 1) (omega arith)

pub nested-last : (n : ℕ) → n ≤ 1 → nested_array (n - 1) ≡ element
nested-last n h = let e : n - 1 ≡ 0 = omega arith in ap nested_array e
