-- Closing a node by its cells: the height is that of what it refers to. Assumes nothing.
use Prim.Native.Nat.{ℕ}
use mathlib.Core.Path.{◌≡◌, ap, ◌∙◌}
use mathlib.Core.List.{List, [], ◌∷◌}
use Rattle.std.specs.Prelude.{Result}
use Rattle.node.specs.Cells.{height_at}
use Rattle.node.specs.declared.Node as row
use Rattle.grammar.specs.Table.{laid, counted, tallest_in}
use Rattle.grammar.specs.declared.State.{State}
use Rattle.grammar.specs.declared.Refusal.{Refusal}
use Rattle.steps.specs.Does.{shut_cells, shut_above, Shuts, Lays}
use Rattle.steps.specs.declared.reader.Reader.{Reader}

-- the height is that of the references, among the counted nodes
pub shuts-lays :
    {r : Reader} {top : ℕ} {x : row.Node} {g : Result ℕ Refusal} {st st' : State} {t t' front : List ℕ} →
    front ≡ counted st.used t → top ≡ tallest_in front (x.a ∷ x.b ∷ x.c ∷ []) → Lays r top x st t g st' t' → Shuts r x st t g st' t'
unfolding shut_cells
shuts-lays {r} {top} {x} {st = st} {t = t} p h q =
    let k : top ≡ tallest_in (counted st.used t) (x.a ∷ x.b ∷ x.c ∷ []) = h ∙ ap (λ (l : List ℕ). tallest_in l (x.a ∷ x.b ∷ x.c ∷ [])) p in
    record { is = q.is ∙ ap (λ (top : ℕ). shut_above r.depth r.room top x st t) k }

pub leaf-shuts : {r : Reader} {kind : ℕ} (numbers : List ℕ) {g : Result ℕ Refusal} {st st' : State} {t t' : List ℕ} → Lays r 0 (laid kind 0 numbers []) st t g st' t' → Shuts r (laid kind 0 numbers []) st t g st' t'
unfolding shut_cells height_at
leaf-shuts numbers q = record { is = q.is }
