-- The rules of lists: a turn for each byte that is left, and one more. Assumes nothing.
use Prim.Native.Nat.{ℕ, zero, suc, ◌+◌, ◌-◌, ◌<◌, ◌≤◌}
use mathlib.Core.Logic.{◌⊎◌, inl, inr, ⊎_elim}
use mathlib.Core.Path.{◌≡◌, refl, sym, ap, ◌∙◌}
use mathlib.Core.List.{List}
use mathlib.Core.Bool.{Bool, true, false}
use native.Mathlib.Omega.{arith}
use native.Mathlib.Numerals.{sub-one}
use lib.Dec.{leb}
use lib.ListN.{length, drop}
use Rattle.std.specs.Prelude.{Result, Ok, Err}
use Rattle.scan.specs.Bytes.{pick, bytes, starts}
use Rattle.grammar.specs.Program.{ret, sub}
use Rattle.grammar.specs.Words.{◌⇒◌∥◌, ◌↝◌∥◌, digit, at_end}
use Rattle.node.specs.Kind.{NamePlace}
use Rattle.grammar.specs.Grammar.{place, nested_name, scope_from, scope, list_end, stored_param, new_param, params_from, params}
use Rattle.grammar.specs.declared.State.{State}
use Rattle.grammar.specs.declared.Refusal.{Refusal}
use Rattle.grammar.specs.declared.Refusal.TheVariants.{Syntax}
use Rattle.grammar.proofs.Funded.{true-false}
use Rattle.steps.specs.Does.{Does, Meets}
use Rattle.steps.specs.declared.reader.Reader.{Reader}
use Rattle.steps.proofs.Laws.{does-ret, does-fail, does-look, does-when, does-else, on-met, on-unmet}
use Rattle.steps.proofs.More.{does-as, does-assoc}
use Rattle.ends.specs.Ends.{list_stops, scope_name}

scope-some : (f last : ℕ) → 0 < f → scope_from f last ≡ ("@" ⇒ ret last ∥ sub nested_name (λ n. sub (place NamePlace n last) (λ next. scope_from (f - 1) next)))
unfolding scope_from
scope-some zero last h = absurd (omega arith)
scope-some (suc f) last h = rw sub-one

params-some :
    (f last : ℕ) → 0 < f →
    params_from f last ≡ ("@" ↝ list_end last ∥ "Z" ↝ list_end last ∥ at_end (list_end last) (sub (digit (stored_param last) (new_param last)) (λ next. params_from (f - 1) next)))
unfolding params_from
params-some zero last h = absurd (omega arith)
params-some (suc f) last h = rw sub-one

one_of : (a b c : Bool) → pick a true (pick b true c) ≡ true → (a ≡ true) ⊎ (((a ≡ false) × (b ≡ true)) ⊎ ((a ≡ false) × (b ≡ false) × (c ≡ true)))
one_of true b c e = inl refl
one_of false true c e = inr (inl (refl, refl))
one_of false false c e = inr (inr (refl, refl, e))

none_of : (a b c : Bool) → pick a true (pick b true c) ≡ false → (a ≡ false) × (b ≡ false) × (c ≡ false)
none_of true b c e = true-false e
none_of false true c e = true-false e
none_of false false c e = (refl, refl, e)

module _ {r : Reader} {d : ℕ} where
  pub scope-starts : {f : ℕ} {g : Result ℕ Refusal} {st st' : State} {t t' : List ℕ} → f ≡ length r.s.now - st.at + 1 → Does r d (scope_from f 0) st t g st' t' → Does r d scope st t g st' t'
  unfolding scope
  scope-starts e h = does-look (does-as (ap (λ (f : ℕ). scope_from f 0) (sym e)) h)

  pub scope_ends : (f last : ℕ) {there : Bool} {st st' : State} {t : List ℕ} → 0 < f → Meets (bytes "@") r.s.now st there st' → there ≡ true → Does r d (scope_from f last) st t (Ok last) st' t
  scope_ends f last h m e = does-as (scope-some f last h) (on-met "@" m e does-ret)

  pub scope-goes :
      (f last : ℕ) {there : Bool} {g : Result ℕ Refusal} {st st₁ st' : State} {t t' : List ℕ} → 0 < f → Meets (bytes "@") r.s.now st there st₁ → there ≡ false →
      Does r d (sub (scope_name last) (λ next. scope_from (f - 1) next)) st₁ t g st' t' → Does r d (scope_from f last) st t g st' t'
  scope-goes f last h m e q = does-as (scope-some f last h) (on-unmet "@" m e (does-assoc q))

  pub scope-out : (f last : ℕ) {st : State} {t : List ℕ} → f ≤ 0 → Does r d (scope_from f last) st t (Err Syntax) st t
  unfolding scope_from
  scope-out f last h = let z : f ≡ 0 = omega arith in does-as (ap (λ (f : ℕ). scope_from f last) z) does-fail

  pub params-starts : {f : ℕ} {g : Result ℕ Refusal} {st st' : State} {t t' : List ℕ} → f ≡ length r.s.now - st.at + 1 → Does r d (params_from f 0) st t g st' t' → Does r d params st t g st' t'
  unfolding params
  params-starts e h = does-look (does-as (ap (λ (f : ℕ). params_from f 0) (sym e)) h)

  -- where it stops, and where it goes on
  pub params-ends :
      (f last : ℕ) {b : Bool} {g : Result ℕ Refusal} {st st' : State} {t t' : List ℕ} → 0 < f → b ≡ list_stops r.s.now st.at → b ≡ true → Does r d (list_end last) st t g st' t' → Does r d (params_from f last) st t g st' t'
  params-ends f last {st = st} h e q l =
      does-as (params-some f last h)
      (⊎_elim (λ a. does-look (does-when a l))
      (⊎_elim (λ a. does-look (does-else a.0 (does-look (does-when a.1 l)))) (λ a. does-look (does-else a.0 (does-look (does-else a.1 (does-look (does-when a.2 l)))))))
      (one_of (starts (bytes "@") (drop st.at r.s.now)) (starts (bytes "Z") (drop st.at r.s.now)) (leb (length r.s.now) st.at) (sym e ∙ q)))

  pub params-goes :
      (f last : ℕ) {b : Bool} {g : Result ℕ Refusal} {st st' : State} {t t' : List ℕ} → 0 < f → b ≡ list_stops r.s.now st.at → b ≡ false →
      Does r d (sub (digit (stored_param last) (new_param last)) (λ next. params_from (f - 1) next)) st t g st' t' → Does r d (params_from f last) st t g st' t'
  params-goes f last {st = st} h e q l =
      let n = none_of (starts (bytes "@") (drop st.at r.s.now)) (starts (bytes "Z") (drop st.at r.s.now)) (leb (length r.s.now) st.at) (sym e ∙ q) in
      does-as (params-some f last h) (does-look (does-else n.0 (does-look (does-else n.1 (does-look (does-else n.2 l))))))

  pub params-out : (f last : ℕ) {st : State} {t : List ℕ} → f ≤ 0 → Does r d (params_from f last) st t (Err Syntax) st t
  unfolding params_from
  params-out f last h = let z : f ≡ 0 = omega arith in does-as (ap (λ (f : ℕ). params_from f last) z) does-fail
