-- A part that reads a program, and the part of a tag, by what its body reads. Assumes nothing.
use Prim.Native.Nat.{ℕ, zero, suc, ◌-◌}
use mathlib.Core.Path.{◌≡◌, refl, sym, ap, ◌∙◌}
use mathlib.Core.List.{List}
use Rattle.std.specs.Prelude.{Result, Ok, Err}
use Rattle.grammar.specs.Counts.{opened}
use Rattle.grammar.specs.Table.{read_table}
use Rattle.grammar.specs.Grammar.{Tag, Ans, Reading, body}
use Rattle.grammar.specs.declared.State.{State}
use Rattle.grammar.specs.declared.Refusal.{Refusal}
use Rattle.steps.specs.Does.{runs, Does, Reads, Opening}
use Rattle.steps.specs.declared.reader.Reader.{Reader}
use Rattle.steps.proofs.Laws.{at-some, at-none}
use Rattle.ends.specs.Ends.{opens_to, Opens}

opens-tag : (s : List ℕ) (limit room d : ℕ) (tag : Tag) (st : State) (t : List ℕ) → opens_to s limit room d (body tag) st t ≡ read_table body s limit room d tag st t
unfolding opens_to read_table
opens-tag s limit room zero tag st t = refl
opens-tag s limit room (suc d) tag st t = refl

pub reads-opens : {r : Reader} {d : ℕ} (tag : Tag) {g : Result (Ans tag) Refusal} {st st' : State} {t t' : List ℕ} → Opens r d (body tag) st t g st' t' → Reads r d tag st t g st' t'
reads-opens {r} {d} tag {st = st} {t = t} o = record { is = o.is ∙ opens-tag r.s.now r.depth r.room d tag st t }

pub opens-deep :
    {A : Type 0} {r : Reader} {d : ℕ} {p : Reading A} {why : Refusal} {f : Result ℕ Refusal} {g : Result A Refusal} {st st' : State} {t : List ℕ} →
    Opening r d st f st' → f ≡ Err why → g ≡ Err why → Opens r d p st t g st' t
unfolding opens_to
opens-deep {r = r} {d = d} {st = st} o e h = let k = at-none r.depth d st o.is e in record { is = rw (h, k.0, k.1, k.2) }

opens-some : {A : Type 0} (s : List ℕ) (limit room left : ℕ) (p : Reading A) (st : State) (t : List ℕ) → opens_to s limit room (suc left) p st t ≡ runs s limit room left p (opened (limit - left) st) t
unfolding opens_to
opens-some s limit room left p st t = refl

pub opens-body :
    {A : Type 0} {r : Reader} {d left : ℕ} {p : Reading A} {f : Result ℕ Refusal} {g : Result A Refusal} {st st₁ st' : State} {t t' : List ℕ} →
    Opening r d st f st₁ → f ≡ Ok left → Does r left p st₁ t g st' t' → Opens r d p st t g st' t'
opens-body {r = r} {d} {left} {p} {st = st} {t = t} o e h =
    let k = at-some r.depth d st o.is e in
    record {
      is =
          h.is
          ∙ ap (λ (x : State). runs r.s.now r.depth r.room left p x t) k.1
          ∙ sym (opens-some r.s.now r.depth r.room left p st t)
          ∙ ap (λ (x : ℕ). opens_to r.s.now r.depth r.room x p st t) (sym k.0);
    }
