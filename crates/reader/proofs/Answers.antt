-- A whole reading: what its readers give is what the written grammar's own demands settle, and what it leaves is fixed. Assumes nothing.
use Prim.Native.Nat.{ℕ, ◌*◌, ◌≤◌, min}
use mathlib.Core.Path.{◌≡◌, refl, sym, ap, subst, ◌∙◌}
use mathlib.Core.List.{List, ◌++◌}
use mathlib.Core.Bool.{true}
use native.Mathlib.Omega.{arith}
use borrow.Author.Tests.{le-leb}
use lib.ListN.{length, drop, replicate}
use Rattle.std.specs.Prelude.{Result, Ok, Err}
use Rattle.node.specs.Cells.{nodes}
use Rattle.grammar.specs.Program.{found, refused, Out, out}
use Rattle.grammar.specs.Table.{read_table}
use Rattle.grammar.specs.Grammar.{Parse, body}
use Rattle.grammar.specs.declared.State.{State}
use Rattle.grammar.specs.declared.Refusal.{Refusal}
use Rattle.grammar.proofs.Table.{Agree, used-fits, cleared, capped-held}
use Rattle.steps.specs.Does.{replied, Reads}
use Rattle.steps.specs.declared.reader.Reader.{Reader}
use Rattle.reader.specs.Whole.{start, whole, inside, answered, table_left}
use Rattle.reader.specs.declared.Unread.TheVariants.{Refused}
use Rattle.scan.specs.Limits.{longest_symbol, Short, deepest_reading, most_nodes}

inside-true : (s : List ℕ) (limit : ℕ) → Short s → limit ≤ deepest_reading → inside s limit ≡ true
inside-true s limit short low = rw (le-leb (length s) longest_symbol short, le-leb limit deepest_reading low)

module _ {r : Reader} {t t₁ : List ℕ} {st : State} {g : Result ℕ Refusal} (low : r.depth ≤ deepest_reading) (rooms : r.room ≡ min most_nodes (nodes t)) (reads : Reads r r.depth Parse start t g st t₁) where
  agrees : Agree t (out (replied g) st t₁) (whole r.s.now r.depth t)
  agrees =
      let short : Short r.s.now = r.short in
      subst (λ (o : Out ℕ (List ℕ)). Agree t o (whole r.s.now r.depth t)) (sym (reads.is ∙ ap (λ (room : ℕ). read_table body r.s.now r.depth room r.depth Parse start t) rooms))
      (capped-held r.s.now t start refl refl refl r.depth most_nodes low (omega (arith, short)))

  pub counted-fits : st.used * 12 ≤ length t₁
  counted-fits = used-fits (out (replied g) st t₁) (whole r.s.now r.depth t) agrees

  pub told-found : {n : ℕ} → g ≡ Ok n → (record { answer = Ok n; state = st } ≡ answered r.s.now r.depth t) × (t₁ ≡ table_left r.s.now r.depth t)
  told-found {n} e =
      let a = agrees in
      let q : found n ≡ (whole r.s.now r.depth t).reply = (rw e refl) ∙ a.reply in
      let i = inside-true r.s.now r.depth r.short low in
      (rw (i, sym q, a.state), rw (i, sym q, a.holds.long) a.holds.is)

  pub told-refused :
      {why : Refusal} {t₂ : List ℕ} → g ≡ Err why → t₂ ≡ replicate (st.used * 12) 0 ++ drop (st.used * 12) t₁ →
      (record { answer = Err (Refused why); state = st } ≡ answered r.s.now r.depth t) × (t₂ ≡ table_left r.s.now r.depth t)
  told-refused {why} e z =
      let a = agrees in
      let q : refused why ≡ (whole r.s.now r.depth t).reply = (rw e refl) ∙ a.reply in
      let i = inside-true r.s.now r.depth r.short low in
      (rw (i, sym q, a.state), rw (i, sym q, a.holds.long) (z ∙ cleared (out (replied g) st t₁) (whole r.s.now r.depth t) a))
