-- The rules by which a shape's proof follows its production: the bytes that a function reads go, and what is left of the production is to be read behind them.
-- Assumes nothing.
use Prim.Native.Nat.{ℕ}
use Prim.Native.String.{String}
use mathlib.Core.Path.{◌≡◌, refl, sym, ap, ◌∙◌}
use mathlib.Core.List.{List}
use mathlib.Core.Bool.{Bool, true, false}
use lib.Dec.{leb}
use lib.ListN.{length, drop}
use Rattle.std.specs.Prelude.{Result, Ok, Err}
use Rattle.scan.specs.Bytes.{pick, bytes, spelled}
use Rattle.grammar.specs.Program.{ret, fail, look, when, sub, node, found, refused, Reply, Out, onward, run, at+}
use Rattle.grammar.specs.Words.{◌⇒◌∥◌, here, ordered}
use Rattle.grammar.specs.Table.{laid, same_table, shut_table, read_table}
use Rattle.grammar.specs.Grammar.{Reading, body}
use Rattle.grammar.specs.declared.State.{State}
use Rattle.grammar.specs.declared.Refusal.{Refusal}
use Rattle.grammar.specs.declared.Refusal.TheVariants.{Syntax}
use Rattle.grammar.proofs.Ordered.{none, chosen, ordered-decided}
use Rattle.steps.specs.Does.{runs, Values, Meets, Leads}
use Rattle.steps.proofs.Laws.{runs-closing}

module _ {s : List ℕ} {A X : Type 0} {k : X → Reading A} where
  pub leads-ret : {x : X} {st : State} → Leads s (k x) st k (Ok x) st
  leads-ret = record { is = λ limit room d t. refl }

  pub leads-fail : {st : State} → Leads s fail st k (Err Syntax) st
  unfolding run
  leads-fail = record { is = λ limit room d t. refl }

  pub leads-as : {p q : Reading A} {g : Result X Refusal} {st st' : State} → p ≡ q → Leads s q st k g st' → Leads s p st k g st'
  leads-as {st = st} e a = record { is = λ limit room d t. a.is limit room d t ∙ ap (λ p. runs s limit room d p st t) (sym e) }

  -- the same from another state
  pub leads-from : {p : Reading A} {g : Result X Refusal} {st st₁ st' : State} → st ≡ st₁ → Leads s p st k g st' → Leads s p st₁ k g st'
  leads-from {p} e a = rw (sym e) a

  pub leads-look : {p : List ℕ → ℕ → Reading A} {g : Result X Refusal} {st st' : State} → Leads s (p s st.at) st k g st' → Leads s (look p) st k g st'
  unfolding run
  leads-look a = record { is = a.is }

  pub leads-when : {b : Bool} {p q : Reading A} {g : Result X Refusal} {st st' : State} → b ≡ true → Leads s p st k g st' → Leads s (when b p q) st k g st'
  unfolding run
  leads-when e a = record { is = λ limit room d t. rw e (a.is limit room d t) }

  pub leads-else : {b : Bool} {p q : Reading A} {g : Result X Refusal} {st st' : State} → b ≡ false → Leads s q st k g st' → Leads s (when b p q) st k g st'
  unfolding run
  leads-else e a = record { is = λ limit room d t. rw e (a.is limit room d t) }

  pub leads-here : {p : ℕ → Reading A} {g : Result X Refusal} {st st' : State} → Leads s (p st.at) st k g st' → Leads s (sub here p) st k g st'
  unfolding run
  leads-here a = record { is = a.is }

  pub leads-value : {B : Type 0} {p : Reading B} {h : B → Reading A} {b : B} {f : Result B Refusal} {g : Result X Refusal} {st st₁ st' : State} → Values s p st f st₁ → f ≡ Ok b → Leads s (h b) st₁ k g st' → Leads s (sub p h) st k g st'
  unfolding run
  leads-value v e a = record { is = λ limit room d t. rw (sym (v.is limit room d t), e) (a.is limit room d t) }

  pub leads-bad : {B : Type 0} {p : Reading B} {h : B → Reading A} {why : Refusal} {f : Result B Refusal} {g : Result X Refusal} {st st' : State} → Values s p st f st' → f ≡ Err why → g ≡ Err why → Leads s (sub p h) st k g st'
  unfolding run
  leads-bad v e q = record { is = λ limit room d t. rw (sym (v.is limit room d t), e, q) }

  pub leads-met : (b : String) {p q : Reading A} {there : Bool} {g : Result X Refusal} {st st₁ st' : State} → Meets (bytes b) s st there st₁ → there ≡ true → Leads s p st₁ k g st' → Leads s (b ⇒ p ∥ q) st k g st'
  unfolding run
  leads-met b {p = p} {st = st} m e a =
      record { is = λ limit room d t. rw (sym m.is ∙ e) (a.is limit room d t ∙ ap (λ (x : State). runs s limit room d p x t) (m.behind ∙ ap (λ (c : Bool). pick c (at+ (length (bytes b)) st) st) e)) }

  pub leads-unmet : (b : String) {p q : Reading A} {there : Bool} {g : Result X Refusal} {st st₁ st' : State} → Meets (bytes b) s st there st₁ → there ≡ false → Leads s q st₁ k g st' → Leads s (b ⇒ p ∥ q) st k g st'
  unfolding run
  leads-unmet b {q = q} {st = st} m e a =
      record { is = λ limit room d t. rw (sym m.is ∙ e) (a.is limit room d t ∙ ap (λ (x : State). runs s limit room d q x t) (m.behind ∙ ap (λ (c : Bool). pick c (at+ (length (bytes b)) st) st) e)) }

-- what is found is read on by what does the same
pub leads-on :
    {s : List ℕ} {A X Y : Type 0} {p : Reading A} {h : Y → Reading A} {k : X → Reading A} {y : Y} {f : Result Y Refusal} {g : Result X Refusal} {st st₁ st' : State} →
    Leads s p st h f st₁ → f ≡ Ok y → Leads s (h y) st₁ k g st' → Leads s p st k g st'
leads-on a e b = record { is = λ limit room d t. let q = a.is limit room d t in b.is limit room d t ∙ (rw e at q) }

-- programs that do the same from every state
pub record Alike {A : Type 0} (s : List ℕ) (p q : Reading A) : Type 0 where
  pub is : (limit room d : ℕ) (st : State) (t : List ℕ) → runs s limit room d p st t ≡ runs s limit room d q st t

pub leads-alike : {A X : Type 0} {s : List ℕ} {p q : Reading A} {k : X → Reading A} {g : Result X Refusal} {st st' : State} → Alike s p q → Leads s q st k g st' → Leads s p st k g st'
leads-alike {st = st} a l = record { is = λ limit room d t. l.is limit room d t ∙ sym (a.is limit room d st t) }

onward-alike : {A B T : Type 0} (r : Reply B) (st : State) (t : T) (f f' : B → State → T → Out A T) → ((b : B) (st : State) (t : T) → f b st t ≡ f' b st t) → onward r st t f ≡ onward r st t f'
onward-alike (found b) st t f f' h = h b st t
onward-alike (refused why) st t f f' h = refl

module _ {s : List ℕ} where
  pub alike-sub : {A B : Type 0} {p : Reading B} {k k' : B → Reading A} → ((b : B) → Alike s (k b) (k' b)) → Alike s (sub p k) (sub p k')
  unfolding run
  alike-sub {p = p} {k = k} {k' = k'} h =
      record { is = λ limit room d st t. onward-alike (runs s limit room d p st t).reply (runs s limit room d p st t).state (runs s limit room d p st t).cells (λ b st t. runs s limit room d (k b) st t) (λ b st t. runs s limit room d (k' b) st t) (λ b st t. (h b).is limit room d st t) }

  -- closings that lay the same cells
  pub alike-node :
      {kd : ℕ} {numbers numbers' refs refs' : List ℕ} → laid kd 0 numbers refs ≡ laid kd 0 numbers' refs' → leb (length refs) 3 ≡ true → leb (length refs') 3 ≡ true →
      Alike s (node kd numbers refs ret) (node kd numbers' refs' ret)
  alike-node {kd} {numbers} {numbers'} {refs} {refs'} e h h' =
      record { is = λ limit room d st t. runs-closing s limit room d kd numbers refs {x = laid kd 0 numbers refs} st t refl h ∙ sym (runs-closing s limit room d kd numbers' refs' {x = laid kd 0 numbers refs} st t e h') }

-- what a leaf chose among spellings, and the production over the same table
module _ {s : List ℕ} {X B A : Type 0} (make : X → ℕ → B) (value : B → X) (taken : B → ℕ) (says : (x : X) (n : ℕ) → (value (make x n) ≡ x) × (taken (make x n) ≡ n)) (k : X → Reading A) where
  pub leads-ordered :
      (table : List (String × X)) (p : Reading A) (other : B) {b : B} {st : State} → b ≡ spelled make table other (drop st.at s) →
      ((limit room d : ℕ) (t : List ℕ) → chosen table (drop st.at s) ≡ none → runs s limit room d p st t ≡ runs s limit room d (k (value other)) (at+ (taken other) st) t) →
      Leads s (ordered table k p) st k (Ok (value b)) (at+ (taken b) st)
  leads-ordered table p other {b} {st} e h =
      record {
        is = λ limit room d t.
            sym (ordered-decided s (same_table s) (shut_table limit room) (read_table body s limit room d) make value taken says k table p other st t (h limit room d t)
            ∙ ap (λ (b : B). runs s limit room d (k (value b)) (at+ (taken b) st) t) (sym e));
      }
