-- Assumes nothing.
use Prim.Native.Nat.{ℕ, ◌+◌}
use mathlib.Core.Bool.{Bool, true}
use mathlib.Core.Path.{◌≡◌, sym, refl, ◌∙◌, ap}
use native.Mathlib.Decide.{ℕ_discrete}
use native.Mathlib.Omega.{arith}
use lib.Dec.{eqb}
use lib.ListN.{length, take}
use mathlib.Core.List.{List, [], ◌∷◌}
use borrow.Author.Rules.{rules}
use borrow.Author.Tests.{eqb-true, eq-eqb, ne_eqb}
use Rattle.std.specs.Prelude.{Result, Ok, Err}
use Rattle.std.specs.Result.{is_ok}
use Rattle.std.specs.List.{list_any}
use Rattle.meaning.specs.Links.{Judged}
use Rattle.meaning.specs.declared.Unequal.{Unequal}
use Rattle.meaning.specs.declared.Unequal.TheVariants.{Differ, Spent}
use Rattle.meaning.proofs.Compare.{same_place}
use Rattle.grammar.specs.Program.{any_of}
use Rattle.steps.specs.Does.{same_in}
use Rattle.steps.proofs.Memos.{any-more, first_count}
use Rattle.steps.proofs.memo.holds.Goals as goal

-- what a judgement within the budget says
answered : {A : Type 0} {e : Bool} (v : Result A Unequal) → Judged e v → (v ≡ Err Spent → ⊥) → is_ok v ≡ e
answered (Ok x) j n = sym (j.yes x refl)
answered (Err Differ) j n = sym (j.no refl)
answered (Err Spent) j n = absurd (n refl)

-- `contains`, by the grammar's word
listed : (n : ℕ) (l : List ℕ) → any_of (eqb n) l ≡ list_any (λ y. eqb y n) l
listed n [] = refl
listed n (y ∷ l) = pick (ℕ_discrete n y) (listed n l)
  where
    pick : Dec (n ≡ y) → any_of (eqb n) l ≡ list_any (λ y. eqb y n) l → any_of (eqb n) (y ∷ l) ≡ list_any (λ y. eqb y n) (y ∷ l)
    pick (yes e) r = rw (eq-eqb n y e, eq-eqb y n (sym e))
    pick (no e) r = rw (ne_eqb n y e, ne_eqb y n (λ z. e (sym z))) r

pub slice_bounds-first-end : goal.slice_bounds-first-end
slice_bounds-first-end c =
    let long : length c.args.entries ≡ 10 = search rules in
    first_count c.from.result c.args.entries (omega (arith, long, c.requires, c.from.ensures))

pub returns-then-contains : goal.returns-then-contains
returns-then-contains c =
    let n = c.args.n in
    let first : take c.from.result c.args.entries ≡ take c.args.len c.args.entries = ap (λ (k : ℕ). take k c.args.entries) c.from.ensures in
    sym (any-more (eqb n) (same_in c.args.front.now c.args.s.now n) (take c.args.len c.args.entries) (λ (e : ℕ) (p : eqb n e ≡ true). same_place c.args.front.now c.args.s.now (n + 1) (e + 1) (ap (λ (x : ℕ). x + 1) (eqb-true n e p)))
    (ap (any_of (eqb n)) (sym first) ∙ listed n (take c.from.result c.args.entries) ∙ sym c.contains.ensures.value ∙ c.if-contains.true))

pub returns : goal.returns
returns c =
    let first : take c.from.result c.args.entries ≡ take c.args.len c.args.entries = ap (λ (k : ℕ). take k c.args.entries) c.from.ensures in
    c.is_ok.ensures.value ∙ answered c.sought.result c.sought.ensures.0 (c.sought.ensures.1 refl) ∙ ap (any_of (same_in c.args.front.now c.args.s.now c.args.n)) first
