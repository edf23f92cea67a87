-- A run over any pieces of input. Assumes nothing.
--     all-owed       at every moment
--     all-answered   at the end
use Prim.Native.Nat.{ℕ}
use mathlib.Core.Path.{◌≡◌, refl, sym, ap, ◌∙◌}
use mathlib.Core.List.{List, [], ◌∷◌, ◌++◌, append-nil, append_assoc}
use Rattle.lines.specs.Output.{output}
use Rattle.lines.specs.Run.{joined, Ran, begun, stepped, handed, AllOwed, AllAnswered}

joined-more : (ps : List (List ℕ)) (p : List ℕ) → joined (ps ++ (p ∷ [])) ≡ joined ps ++ p
unfolding joined
joined-more [] p = append-nil p
joined-more (q ∷ ps) p = ap (λ l. q ++ l) (joined-more ps p) ∙ sym (append_assoc q (joined ps) p)

owed : {pieces parts : List (List ℕ)} {kept waits : List ℕ} → Ran pieces parts kept waits → (more : List ℕ) → joined parts ++ (waits ++ output (kept ++ more)) ≡ output (joined pieces ++ more)
unfolding joined
owed begun more = refl
owed (stepped {pieces} {parts} {kept} {waits} {came} r s) more =
    ap (λ l. joined parts ++ l) (s.owes more) ∙ ap (λ l. joined parts ++ (waits ++ output l)) (append_assoc kept came more) ∙ owed r (came ++ more)
    ∙ ap output (sym (append_assoc (joined pieces) came more) ∙ ap (λ l. l ++ more) (sym (joined-more pieces came)))
owed (handed {pieces} {parts} {kept} {waits} r) more =
    ap (λ l. l ++ output (kept ++ more)) (joined-more parts waits) ∙ append_assoc (joined parts) waits (output (kept ++ more)) ∙ owed r more

pub all-owed : AllOwed
all-owed pieces parts kept waits more r = owed r more

pub all-answered : (kept waits waits' : List ℕ) → waits' ≡ waits ++ output kept → AllAnswered kept waits waits'
all-answered kept waits waits' e pieces parts r =
    joined-more parts waits' ∙ ap (λ l. joined parts ++ l) e ∙ ap (λ l. joined parts ++ (waits ++ output l)) (sym (append-nil kept)) ∙ all-owed pieces parts kept waits [] r ∙ ap output (append-nil (joined pieces))
