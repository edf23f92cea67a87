-- Assumes nothing.
use mathlib.Core.Path.{◌∙◌}
use native.Mathlib.Omega.{arith}
use Rattle.meaning.proofs.Compare.{one-none}
use Rattle.meaning.proofs.Past.{blank_told, past_first, past-second}
use Rattle.meaning.proofs.same_linked.Goals as goal

pub returns-then-r-eq0 : goal.returns-then-r-eq0
returns-then-r-eq0 c = (one-none _ _ _ _ (λ a b. omega (arith, c.then-r-eq0.either)), c.requires)

pub returns-then-n-r : goal.returns-then-n-r
returns-then-n-r c =
    (c.blank.ensures ∙ blank_told _ _ _ (omega (arith, c.if-q-eq0.false)) ∙ past_first _ _ _ (omega (arith, c.if-r-eq0.false)) _ (omega (arith, c.room-n.ensures, c.if-n-r.true)), c.requires)

pub returns-then-n-q : goal.returns-then-n-q
returns-then-n-q c =
    (c.blank-then-n-q.ensures ∙ blank_told _ _ _ (omega (arith, c.if-r-eq0.false)) ∙ past-second _ _ _ (omega (arith, c.if-q-eq0.false)) _ (omega (arith, c.room-n.ensures, c.if-n-q.true)), c.requires)
