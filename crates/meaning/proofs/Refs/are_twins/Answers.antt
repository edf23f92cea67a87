-- Assumes nothing.
use native.Mathlib.Omega.{arith}
use mathlib.Core.Path.{sym, ◌∙◌}
use Rattle.meaning.proofs.Compare.{cells-same}
use Rattle.meaning.proofs.Refs.are_twins.Goals as goal

pub returns-then-same_kids : goal.returns-then-same_kids
returns-then-same_kids c =
    λ s e. cells-same _ s _ _ (omega (arith, c.if-r-eq0.false)) (omega (arith, c.if-q-eq0.false)) (sym c.same_kids.ensures ∙ c.if-same_kids.true) (sym c.same_numbers.ensures ∙ e)
