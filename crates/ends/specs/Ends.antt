-- The ends of productions, and parts of a program that is no tag's. Assumes nothing: these are definitions.
use Rattle.std.specs.Prelude.{ℕ, zero, suc, ◌-◌, ◌≡◌, List, [], ◌∷◌, Bool, true, false, length, drop, leb, ltb, Result}
use Rattle.scan.specs.Bytes.{pick, bytes, starts}
use Rattle.grammar.specs.Program.{ret, fail, look, when, skip, part, node, refused, Out, out}
use Rattle.grammar.specs.Counts.{opened}
use Rattle.grammar.specs.Words.{◌>>=◌, ◌>>◌, ◌↝◌∥◌, here, memorize_name, memorize_type}
use Rattle.node.specs.Kind.{NamePlace, TypePlace, Array}
use Rattle.grammar.specs.Grammar.{Reading, NoParams, close, place, to, nested_name, params}
use Rattle.grammar.specs.declared.State.{State}
use Rattle.grammar.specs.declared.Refusal.{Refusal}
use Rattle.grammar.specs.declared.Refusal.TheVariants.{Deep}
use Rattle.steps.specs.Does.{replied, runs}
use Rattle.steps.specs.declared.reader.Reader.{Reader}

-- a part that reads p
unfoldable pub opens_to : {A : Type 0} → List ℕ → ℕ → ℕ → ℕ → Reading A → State → List ℕ → Out A (List ℕ)
opens_to s limit room zero p st t = out (refused Deep) st t
opens_to s limit room (suc d) p st t = runs s limit room d p (opened (limit - d) st) t

pub record Opens {A : Type 0} (r : Reader) (d : ℕ) (p : Reading A) (st : State) (t : List ℕ) (g : Result A Refusal) (st' : State) (t' : List ℕ) : Type 0 where
  pub is : out (replied g) st' t' ≡ opens_to r.s.now r.depth r.room d p st t

-- these bytes, and a node
abbrev pub expect_bytes : List ℕ → Reading (Unit {0})
expect_bytes b = look λ s at. when (starts b (drop at s)) (skip (length b) (ret tt)) fail

abbrev pub literal_of : List ℕ → ℕ → List ℕ → Reading ℕ
literal_of b kind numbers = do
  expect_bytes b
  node kind numbers [] ret

abbrev pub list_stops : List ℕ → ℕ → Bool
list_stops s at = pick (starts (bytes "@") (drop at s)) true (pick (starts (bytes "Z") (drop at s)) true (leb (length s) at))

-- a type that took more than one byte is stored
abbrev pub kept_type : ℕ → ℕ → ℕ → Reading (Unit {0})
kept_type from end t = when (ltb 1 (end - from)) (memorize_type t) (ret tt)

abbrev pub param_end : ℕ → ℕ → ℕ → Reading ℕ
param_end from last t = do
  end ← here
  kept_type from end t
  place TypePlace t last

-- an array of a length over what was found, with the class of its element
abbrev pub array_end : ℕ → ℕ × ℕ → Reading (ℕ × ℕ)
array_end len inner = do
  n ← close Array (inner.1 ∷ len ∷ []) (to inner.0 ∷ [])
  ret (n, inner.1)

-- the inside of a list of parameters: one void, or types
abbrev pub void_or_params : Reading ℕ
void_or_params =
    "X" ↝ (do
      t ← part NoParams ret
      place TypePlace t 0) ∥
    params

abbrev pub scope_name : ℕ → Reading ℕ
scope_name last = do
  n ← nested_name
  place NamePlace n last

-- a name that refers to none, stored or not
abbrev pub leaf_name : ℕ → ℕ → ℕ → Bool → Reading ℕ
leaf_name kind p q stored = do
  n ← node kind (p ∷ q ∷ []) [] ret
  when stored (memorize_name n) (ret tt)
  ret n

-- the name of a template is stored, but for a function's own, and is no guard's
abbrev pub stored_unless : Bool → ℕ → Reading (ℕ × Bool)
stored_unless function n = do
  when function (ret tt) (memorize_name n)
  ret (n, false)
