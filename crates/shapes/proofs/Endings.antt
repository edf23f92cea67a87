-- The ends of names and of special names, and a guard's index. Assumes nothing.
use Prim.Native.Nat.{ℕ, ◌+◌, ◌≤◌, ◌<◌}
use mathlib.Core.Path.{◌≡◌, refl, sym, ◌∙◌}
use mathlib.Core.List.{List, [], ◌∷◌}
use mathlib.Core.Bool.{Bool, true, false}
use lib.ListN.{length}
use lib.Dec.{eqb}
use borrow.Author.Tests.{le-leb, lt-leb, ne_eqb}
use Rattle.std.specs.Prelude.{Result, Ok}
use Rattle.grammar.specs.Program.{ret, when, sub, node, run}
use Rattle.grammar.specs.Words.{unsigned, memorize_name}
use Rattle.node.specs.Kind.{Operator}
use Rattle.grammar.specs.Table.{laid}
use Rattle.grammar.specs.Grammar.{Reading, close, rtti_type_descriptor, rtti_base_class_descriptor, is_guard, index_and_one}
use Rattle.grammar.specs.declared.State.{State}
use Rattle.grammar.specs.declared.Refusal.{Refusal}
use Rattle.steps.specs.Does.{runs, Values, Leads}
use Rattle.steps.proofs.Laws.{ends}
use Rattle.steps.proofs.More.{onward-assoc}
use Rattle.steps.proofs.Leads.{Alike, alike-node}
use Rattle.ends.specs.Ends.{leaf_name}
use Rattle.shapes.specs.Shapes.{unguarded, shape_special}
use Rattle.shapes.specs.declared.names.SpecialShape.{SpecialShape}
use Rattle.shapes.specs.declared.names.SpecialShape.TheVariants as special

module _ {s : List ℕ} where
  -- a name that is stored, and one that isn't
  pub alike-stored : {kd p q : ℕ} → Alike s (sub (node kd (p ∷ q ∷ []) [] ret) (λ n. sub (memorize_name n) (λ _. ret n))) (leaf_name kd p q true)
  unfolding run
  alike-stored = record { is = λ limit room d st t. refl }

  pub alike-unstored : {kd p q : ℕ} {numbers : List ℕ} → laid kd 0 numbers [] ≡ laid kd 0 (p ∷ q ∷ []) [] → Alike s (node kd numbers [] ret) (leaf_name kd p q false)
  unfolding run
  alike-unstored {kd} {p} {q} {numbers} e =
      record { is = λ limit room d st t. (alike-node {s = s} {kd = kd} {numbers = numbers} {numbers' = p ∷ q ∷ []} {refs = []} {refs' = []} e refl refl).is limit room d st t ∙ sym (ends (runs s limit room d (node kd (p ∷ q ∷ []) [] ret) st t)) }

-- and the first part of it for a guard's name
pub alike-first : {s : List ℕ} {p q : Reading ℕ} → Alike s p q → Alike s (unguarded p) (unguarded q)
unfolding run
alike-first a = record { is = λ limit room d st t. rw (a.is limit room d st t) refl }

-- programs in another order of brackets
module _ {s : List ℕ} {A B C X : Type 0} {p : Reading C} {h : C → Reading B} {f : B → Reading A} {k : X → Reading A} where
  pub leads-inner : {g : Result X Refusal} {st st' : State} → Leads s (sub p (λ c. sub (h c) f)) st k g st' → Leads s (sub (sub p h) f) st k g st'
  unfolding run
  leads-inner {st = st} a =
      record { is = λ limit room d t. a.is limit room d t ∙ sym (onward-assoc (runs s limit room d p st t).reply (runs s limit room d p st t).state (runs s limit room d p st t).cells (λ c st t. runs s limit room d (h c) st t) (λ b st t. runs s limit room d (f b) st t)) }

-- a test
module _ {s : List ℕ} {A : Type 0} {b : Bool} {p q : Reading A} {g : Result A Refusal} {st st' : State} where
  pub values-when : b ≡ true → Values s p st g st' → Values s (when b p q) st g st'
  unfolding run
  values-when e v = record { is = λ limit room d t. rw e (v.is limit room d t) }

  pub values-else : b ≡ false → Values s q st g st' → Values s (when b p q) st g st'
  unfolding run
  values-else e v = record { is = λ limit room d t. rw e (v.is limit room d t) }

-- what is behind an operator: two have operands
abbrev behind : ℕ → Reading (ℕ × Bool)
behind op = sub (when (eqb op 75) rtti_type_descriptor (when (eqb op 76) rtti_base_class_descriptor (close Operator (op ∷ []) []))) (λ n. ret {A = ℕ × Bool} (n, is_guard op))

module _ {s : List ℕ} {st st' : State} {g : Result SpecialShape Refusal} where
  pub behind-type : {op : ℕ} → op ≡ 75 → Leads s (unguarded rtti_type_descriptor) st shape_special g st' → Leads s (behind op) st shape_special g st'
  unfolding run
  behind-type e a = record { is = λ limit room d t. rw e (a.is limit room d t) }

  pub behind-base : {op : ℕ} → op ≡ 76 → Leads s (unguarded rtti_base_class_descriptor) st shape_special g st' → Leads s (behind op) st shape_special g st'
  unfolding run
  behind-base e a = record { is = λ limit room d t. rw e (a.is limit room d t) }

pub behind-other : {s : List ℕ} {st : State} {op : ℕ} → (op ≡ 75 → ⊥) → (op ≡ 76 → ⊥) → Leads s (behind op) st shape_special (Ok (special.Operator op)) st
unfolding run
behind-other {op = op} e f = record { is = λ limit room d t. rw (ne_eqb op 75 e, ne_eqb op 76 f) refl }

-- a guard's index
module _ {s : List ℕ} {st : State} where
  pub index-none : length s ≤ st.at → Values s index_and_one st (Ok 0) st
  unfolding run index_and_one
  index-none h = record { is = λ limit room d t. rw (le-leb (length s) st.at h) }

  pub index-some : {g : Result ℕ Refusal} {st' : State} → st.at < length s → Values s (sub unsigned (λ i. ret (i + 1))) st g st' → Values s index_and_one st g st'
  unfolding run index_and_one
  index-some h v = record { is = λ limit room d t. rw (lt-leb (length s) st.at h) (v.is limit room d t) }
