-- Assumes nothing.
use Rattle.std.proofs.Common.{sym, refl, ◌∙◌, arith, rules}
use Rattle.serializer.proofs.Walks.{first-here, first_on}
use Rattle.serializer.proofs.lists.first_entry.Goals as goal

pub loop-i-init : goal.loop-i-init
loop-i-init c = (search rules, search rules, λ s. refl)

pub loop-i-preserved : goal.loop-i-preserved
loop-i-preserved c = (omega arith, omega (arith, c.kid-before.ensures.1), λ s. c.loop-i.invariant.2 s ∙ first_on _ s c.loop-i.invariant.0 c.kid-before.ensures.0 (omega arith))

pub returns : goal.returns
returns c = (λ s. sym (c.loop-i.invariant.2 s ∙ first-here _ s c.loop-i.invariant.0 c.kid-before.ensures.0 c.if-before-eq0.true c.kid.ensures.0), omega (arith, c.kid.ensures.1))
