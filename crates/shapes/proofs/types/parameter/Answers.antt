-- Assumes nothing.
use mathlib.Core.Path.{ap}
use native.Mathlib.Omega.{arith}
use Rattle.steps.proofs.Laws.{handed}
use Rattle.steps.proofs.Leads.{leads-as, leads-bad, leads-ret, leads-value}
use Rattle.grammar.specs.Grammar.{letter_type}
use Prim.Native.Nat.{ℕ}
use mathlib.Core.List.{[], ◌∷◌}
use mathlib.Core.Path.{◌≡◌}
use Rattle.grammar.specs.Program.{ret, node}
use Rattle.grammar.specs.Words.{negated}
use Rattle.shapes.proofs.types.parameter.Goals as goal

pub returns-in_err-n : goal.returns-in_err-n
unfolding letter_type
returns-in_err-n c = leads-bad c.number.ensures c.in_err-n.was (handed c.from_residual.ensures)

pub returns : goal.returns
unfolding letter_type
returns c = leads-value c.number.ensures c.in_ok-n.was (let e : negated c.in_ok-n.n ≡ c.wrapping_neg.result = omega (arith, c.wrapping_neg.ensures) in leads-as (ap (λ (x : ℕ). node 24 (x ∷ []) [] ret) e) leads-ret)
