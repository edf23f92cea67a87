-- Assumes nothing.
use mathlib.Core.Path.{◌∙◌, refl}
use native.Mathlib.Omega.{arith}
use Rattle.meaning.proofs.Compare.{one-none, not_own, judged-no, judged-is}
use Rattle.meaning.proofs.Past.{blank_told, past_first, past-second}
use Rattle.meaning.proofs.judge.Goals as goal

pub returns-then-r-eq0 : goal.returns-then-r-eq0
returns-then-r-eq0 c = judged-is (one-none _ _ _ _ (λ a b. omega (arith, c.then-r-eq0.either))) c.told.ensures.0

pub returns-then-n-r : goal.returns-then-n-r
returns-then-n-r c =
    judged-is (c.blank.ensures ∙ blank_told _ _ _ (omega (arith, c.if-q-eq0.false)) ∙ past_first _ _ _ (omega (arith, c.if-r-eq0.false)) _ (omega (arith, c.room-n.ensures, c.if-n-r.true))) c.told-then-n-r.ensures.0

pub returns-then-n-q : goal.returns-then-n-q
returns-then-n-q c =
    judged-is (c.blank-then-n-q.ensures ∙ blank_told _ _ _ (omega (arith, c.if-r-eq0.false)) ∙ past-second _ _ _ (omega (arith, c.if-q-eq0.false)) _ (omega (arith, c.room-n.ensures, c.if-n-q.true))) c.told-then-n-q.ensures.0

pub returns-else-alike : goal.returns-else-alike
returns-else-alike c = judged-no (not_own _ _ (omega (arith, c.if-r-eq0.false)) (omega (arith, c.if-q-eq0.false)) refl refl refl (c.alike.ensures c.if-alike.false))
