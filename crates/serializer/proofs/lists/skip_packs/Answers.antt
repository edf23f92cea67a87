-- Assumes nothing.
use Rattle.std.proofs.Common.{◌-◌, sym, refl, ◌∙◌, arith, rules}
use Rattle.serializer.proofs.Walks.{skip-nil, skip-on, skip_stop, pack-is, pack-not}
use Rattle.serializer.proofs.lists.skip_packs.Goals as goal

pub loop-p-init : goal.loop-p-init
loop-p-init c = (search rules, λ s. refl)

pub loop-p-preserved : goal.loop-p-preserved
loop-p-preserved c = (omega (arith, c.kid-p.ensures.1), λ s. c.loop-p.invariant.1 s ∙ skip-on _ s c.loop-p-test.true c.kid-p.ensures.0 (pack-is _ s (c.loop-p.p - 1) c.kid.ensures.0 (c.kind_at.ensures s) c.if-kind_at-ne-EMPTY_PARAMETER_PACK.false))

pub returns-after-loop-p : goal.returns-after-loop-p
returns-after-loop-p c = (λ s. sym (c.loop-p.invariant.1 s ∙ skip-nil _ s (omega arith)), c.loop-p.invariant.0, λ l. absurd (omega arith))

pub returns-then-kind_at-ne-EMPTY_PARAMETER_PACK : goal.returns-then-kind_at-ne-EMPTY_PARAMETER_PACK
returns-then-kind_at-ne-EMPTY_PARAMETER_PACK c = (λ s. sym (c.loop-p.invariant.1 s ∙ skip_stop _ s c.loop-p-test.true (pack-not _ s (c.loop-p.p - 1) c.kid.ensures.0 (c.kind_at.ensures s) c.if-kind_at-ne-EMPTY_PARAMETER_PACK.true)), c.loop-p.invariant.0, λ l s. (pack-not _ s (c.loop-p.p - 1) c.kid.ensures.0 (c.kind_at.ensures s) c.if-kind_at-ne-EMPTY_PARAMETER_PACK.true))
