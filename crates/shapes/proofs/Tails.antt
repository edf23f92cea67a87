-- The tails of the grammar's functions lay the same cells as a signature's tail. The bits of a qualifier. Assumes nothing.
use Prim.Native.Nat.{ℕ, ◌≤◌}
use mathlib.Core.Path.{◌≡◌, refl}
use mathlib.Core.List.{List, [], ◌∷◌}
use mathlib.Core.Bool.{true, false}
use lib.Dec.{leb}
use lib.ListN.{length, drop}
use Rattle.std.specs.Prelude.{Ok}
use Rattle.letters.specs.Classes.{read_calling_conv, read_storage_class_for_return, read_qualifier}
use Rattle.letters.proofs.Spelled.{sized-qualifier}
use Rattle.grammar.specs.Program.{ret, sub, node}
use Rattle.grammar.specs.Words.{leaf, class}
use Rattle.node.specs.Kind.{MemberFunction, NonMemberFunction}
use Rattle.grammar.specs.Table.{laid}
use Rattle.grammar.specs.Grammar.{close, to, var_type, func_return_type, func_params, plain_function}
use Rattle.grammar.specs.declared.State.{State}
use Rattle.steps.specs.Does.{Values}
use Rattle.steps.proofs.Choices.{class-says}
use Rattle.steps.proofs.Leads.{Alike, alike-sub, alike-node}
use Rattle.shapes.specs.Shapes.{signed, tail_of, returned, conventions}
use Rattle.shapes.specs.declared.heads.Signature.{Signature}

-- a return, the parameters, and a node of these numbers
pub tail-alike :
    {s : List ℕ} (x : Signature) (numbers : List ℕ) (refs : ℕ → ℕ → List ℕ) →
    ((t l : ℕ) → laid x.kind 0 numbers (refs t l) ≡ laid x.kind 0 (x.class ∷ x.convention ∷ x.func_class ∷ []) (to t ∷ l ∷ x.third ∷ [])) → ((t l : ℕ) → leb (length (refs t l)) 3 ≡ true) →
    Alike s (sub (returned x.structor x.return_class) (λ t. sub func_params (λ l. node x.kind numbers (refs t l) ret))) (tail_of x)
tail-alike x numbers refs e h = alike-sub (λ t. alike-sub (λ l. alike-node (e t l) (h t l) refl))

pub plain-alike : {s : List ℕ} → Alike s plain_function (conventions (signed 20 0 0 0 0 0 false))
plain-alike = alike-sub (λ conv. alike-sub (λ sc. tail-alike (signed 20 0 conv 0 0 sc false) (0 ∷ conv ∷ []) (λ t l. to t ∷ l ∷ []) (λ t l. refl) (λ t l. refl)))

pub rest-alike :
    {s : List ℕ} (sc conv var_sc : ℕ) →
    Alike s (sub (var_type var_sc) (λ t. sub func_params (λ l. close NonMemberFunction (sc ∷ conv ∷ []) (to t ∷ l ∷ [])))) (tail_of (signed 20 sc conv 0 0 var_sc false))
rest-alike sc conv var_sc = tail-alike (signed 20 sc conv 0 0 var_sc false) (sc ∷ conv ∷ []) (λ t l. to t ∷ l ∷ []) (λ t l. refl) (λ t l. refl)

pub member_alike :
    {s : List ℕ} (sc func_class : ℕ) →
    Alike s (sub (leaf read_calling_conv) (λ conv. sub (leaf read_storage_class_for_return) (λ return_sc. sub (func_return_type return_sc) (λ t. sub func_params (λ l. close MemberFunction (sc ∷ conv ∷ func_class ∷ []) (to t ∷ l ∷ []))))))
    (conventions (signed 18 sc 0 func_class 0 0 true))
member_alike sc func_class = alike-sub (λ conv. alike-sub (λ return_sc. tail-alike (signed 18 sc conv func_class 0 return_sc true) (sc ∷ conv ∷ func_class ∷ []) (λ t l. to t ∷ l ∷ []) (λ t l. refl) (λ t l. refl)))

-- the bits of a qualifier are few
pub qualifier-small : {s : List ℕ} {x : ℕ} {st st' : State} → Values s (class read_qualifier) st (Ok x) st' → x ≤ 12
qualifier-small {s} {st = st} q = rw (class-says read_qualifier q) (sized-qualifier.bound (drop st.at s))
