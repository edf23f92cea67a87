-- Assumes nothing.
use mathlib.Core.Path.{◌∙◌, sym, ap₂}
use native.Mathlib.Omega.{arith}
use borrow.Author.Tests.{eqb-true, eqb-false}
use Rattle.meaning.specs.Tree.{eq_list}
use Rattle.meaning.proofs.Own.{own-0, own-not, content-numbers, content-bytes, length-other}
use Rattle.meaning.proofs.Pair.alike.Goals as goal

pub returns-then-not-same_cell : goal.returns-then-not-same_cell
returns-then-not-same_cell c = λ z. own-0 _ _ _ _ (sym c.same_cell.ensures ∙ c.if-not-same_cell.true)

pub returns-in-Numbers : goal.returns-in-Numbers
returns-in-Numbers c =
    λ z. own-not _ _ _ _ (sym c.same_cell.ensures ∙ c.if-not-same_cell.false) (content-numbers _ _ _ _ c.in-Numbers.ensures ∙ rw (sym c.same_cell-in-Numbers.ensures ∙ z))

pub returns-in-Bytes : goal.returns-in-Bytes
returns-in-Bytes c =
    λ z. own-not _ _ _ _ (sym c.same_cell.ensures ∙ c.if-not-same_cell.false)
    (content-bytes _ _ _ _ (eqb-true _ _ (sym c.same_cell.ensures ∙ c.if-not-same_cell.false)) (λ e. omega (arith, e, c.in-Bytes.ensures)) c.in-Bytes.ensures
    ∙ sym (ap₂ eq_list c.bytes.ensures.first c.bytes.ensures.second) ∙ length-other _ _ (eqb-false _ _ z))
