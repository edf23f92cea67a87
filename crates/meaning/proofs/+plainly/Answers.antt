-- The functions of this cycle of calls meet their contracts.
-- Assumes nothing.
use mathlib.Core.Path.{◌≡◌, refl}
use borrow.Author.Rules.{rules}
use Rattle.std.specs.Prelude.{Err}
use native.Mathlib.Omega.{arith}
use Rattle.meaning.proofs.Compare.{judged-no, judged-yes, judged-is, judged-first, judged-second, judged-third, same_place, not-both, not_own, at_same}
use Rattle.meaning.proofs.Trees.{tree-same}
use Rattle.meaning.proofs.+plainly.Goals as goal

pub plain-returns-then-r-q : goal.plain-returns-then-r-q
plain-returns-then-r-q t c = judged-yes (same_place _ _ _ _ c.if-r-q.true)

pub plain-returns-then-r-eq0 : goal.plain-returns-then-r-eq0
plain-returns-then-r-eq0 t c = judged-no (not-both _ _ _ _ (λ a b. omega (arith, c.then-r-eq0.either)) c.if-r-q.false)

pub plain-returns-then-not-same_own : goal.plain-returns-then-not-same_own
plain-returns-then-not-same_own t c = judged-no (not_own _ _ (omega (arith, c.if-r-eq0.false)) (omega (arith, c.if-q-eq0.false)) c.same_own.ensures refl refl c.if-not-same_own.true)

pub plain-returns-in_err-left-2 : goal.plain-returns-in_err-left-2
plain-returns-in_err-left-2 t c =
    let e : c.from_residual-in_err-left-2.result ≡ Err c.in_err-left-2.field-0.0 = search rules in
    judged-first _ _ (omega (arith, c.if-r-eq0.false)) (omega (arith, c.if-q-eq0.false)) c.same_own.ensures refl refl c.if-not-same_own.false e (c.in_err-left-2.ensures)

pub plain-returns-in_err-left-3 : goal.plain-returns-in_err-left-3
plain-returns-in_err-left-3 t c =
    let e : c.from_residual-in_err-left-3.result ≡ Err c.in_err-left-3.field-0.0 = search rules in
    judged-second _ _ (omega (arith, c.if-r-eq0.false)) (omega (arith, c.if-q-eq0.false)) c.same_own.ensures refl refl c.if-not-same_own.false (c.plain_first.ensures.yes _ c.in_ok-left-2.was) e (c.in_err-left-3.ensures)

pub plain-returns : goal.plain-returns
plain-returns t c = judged-third _ _ (omega (arith, c.if-r-eq0.false)) (omega (arith, c.if-q-eq0.false)) c.same_own.ensures refl refl c.if-not-same_own.false (c.plain_first.ensures.yes _ c.in_ok-left-2.was) (c.plain_kids.ensures.yes _ c.in_ok-left-3.was) c.plain_kids-2.ensures

pub plain_kids-returns-then-are_twins : goal.plain_kids-returns-then-are_twins
plain_kids-returns-then-are_twins t c = judged-is (at_same _ _ c.kids-r.ensures.first.0 c.kids-r.ensures.second.0) (judged-yes ((tree-same _ _).1 (c.are_twins.ensures _ c.if-are_twins.true)))

pub plain_first-returns-then-r-q : goal.plain_first-returns-then-r-q
plain_first-returns-then-r-q t c = judged-is (at_same _ _ c.kids-r.ensures.first.0 c.kids-r.ensures.second.0) (judged-yes (same_place _ _ _ _ c.if-r-q.true))

pub plain_kids-returns-then-r-q : goal.plain_kids-returns-then-r-q
plain_kids-returns-then-r-q t c = judged-is (at_same _ _ c.kids-r.ensures.first.0 c.kids-r.ensures.second.0) (judged-yes (same_place _ _ _ _ c.if-r-q.true))
