-- Programs of a few words that leave the table as it is: choices by the bytes that stand here, letters one behind another. Assumes nothing.
use Prim.Native.Nat.{ℕ, ◌≤◌}
use Prim.Native.String.{String}
use mathlib.Core.Path.{◌≡◌, refl, sym, ap, ◌∙◌}
use mathlib.Core.List.{List, []}
use mathlib.Core.Bool.{Bool, true, false}
use native.Mathlib.Omega.{arith}
use lib.ListN.{length, drop}
use Rattle.std.specs.Prelude.{Result, Ok, Err}
use Rattle.scan.specs.Bytes.{pick, bytes}
use Rattle.letters.specs.Classes.{storage_classes, read_storage_class}
use Rattle.letters.specs.declared.Class.{Class}
use Rattle.letters.proofs.Spelled.{total, class-bits}
use Rattle.grammar.specs.Program.{ret, fail, sub, Reply, found, refused, Out, run, at+}
use Rattle.grammar.specs.Words.{◌⇒◌∥◌, class}
use Rattle.grammar.specs.Grammar.{Reading}
use Rattle.grammar.specs.declared.State.{State}
use Rattle.grammar.specs.declared.Refusal.{Refusal}
use Rattle.grammar.specs.declared.Refusal.TheVariants.{Syntax}
use Rattle.steps.specs.Does.{runs, Values, Meets}

module _ {s : List ℕ} {A : Type 0} where
  pub values-ret : {a : A} {st : State} → Values s (ret a) st (Ok a) st
  unfolding run
  values-ret = record { is = λ limit room d t. refl }

  pub values-fail : {st : State} → Values s (fail {A = A}) st (Err Syntax) st
  unfolding run
  values-fail = record { is = λ limit room d t. refl }

  pub values-met : (b : String) {p q : Reading A} {there : Bool} {g : Result A Refusal} {st st₁ st' : State} → Meets (bytes b) s st there st₁ → there ≡ true → Values s p st₁ g st' → Values s (b ⇒ p ∥ q) st g st'
  unfolding run
  values-met b {p = p} {st = st} m e h =
      record { is = λ limit room d t. rw (sym m.is ∙ e) (h.is limit room d t ∙ ap (λ (x : State). runs s limit room d p x t) (m.behind ∙ ap (λ (c : Bool). pick c (at+ (length (bytes b)) st) st) e)) }

  pub values-unmet : (b : String) {p q : Reading A} {there : Bool} {g : Result A Refusal} {st st₁ st' : State} → Meets (bytes b) s st there st₁ → there ≡ false → Values s q st₁ g st' → Values s (b ⇒ p ∥ q) st g st'
  unfolding run
  values-unmet b {q = q} {st = st} m e h =
      record { is = λ limit room d t. rw (sym m.is ∙ e) (h.is limit room d t ∙ ap (λ (x : State). runs s limit room d q x t) (m.behind ∙ ap (λ (c : Bool). pick c (at+ (length (bytes b)) st) st) e)) }

  pub values-then : {B : Type 0} {p : Reading B} {k : B → Reading A} {b : B} {f : Result B Refusal} {g : Result A Refusal} {st st₁ st' : State} → Values s p st f st₁ → f ≡ Ok b → Values s (k b) st₁ g st' → Values s (sub p k) st g st'
  unfolding run
  values-then v e h = record { is = λ limit room d t. rw (sym (v.is limit room d t), e) (h.is limit room d t) }

  pub values-bad : {B : Type 0} {p : Reading B} {k : B → Reading A} {why : Refusal} {f : Result B Refusal} {g : Result A Refusal} {st st' : State} → Values s p st f st' → f ≡ Err why → g ≡ Err why → Values s (sub p k) st g st'
  unfolding run
  values-bad v e h = record { is = λ limit room d t. rw (sym (v.is limit room d t), e, h) }

-- the bits of a class are few
bits-said : Reply ℕ → ℕ
bits-said (found n) = n
bits-said (refused why) = 0

pub class-says : {s : List ℕ} (f : List ℕ → Class) {x : ℕ} {st st' : State} → Values s (class f) st (Ok x) st' → x ≡ (f (drop st.at s)).bits
unfolding run bits-said
class-says f q = ap (λ (o : Out ℕ (List ℕ)). bits-said o.reply) (q.is 0 0 0 [])

small-class : (r : List ℕ) → (read_storage_class r).bits ≤ total storage_classes
unfolding read_storage_class
small-class r = class-bits storage_classes r

pub storage-small : {s : List ℕ} {x : ℕ} {st st' : State} → Values s (class read_storage_class) st (Ok x) st' → x ≤ 64
storage-small {s} {x} {st} q = rw (class-says read_storage_class q) (omega (arith, small-class (drop st.at s)))
