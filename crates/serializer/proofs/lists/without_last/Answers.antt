-- Assumes nothing.
use Rattle.std.proofs.Common.{◌≡◌, ◌+◌, ◌-◌, ◌<◌, sym, refl, ap, ◌∙◌, arith, rules}
use Rattle.meaning.proofs.Trees.{tree-none}
use Rattle.serializer.specs.Lists.{without_last}
use Rattle.serializer.proofs.Chain.{without-zero}
use Rattle.serializer.proofs.Walks.{without-nil, without-one, without-skip}
use Rattle.serializer.proofs.lists.without_last.Goals as goal

pub returns-then-q-eq0 : goal.returns-then-q-eq0
returns-then-q-eq0 c =
    let left : 0 < c.args.h - c.loop.counter = omega (arith, c.loop-test.true) in
    (λ s. tree-none _ s 0 refl ∙ sym (c.loop.invariant.1 s ∙ (without-skip _ (c.skip_packs-q.ensures.0 s) (c.args.h - c.loop.counter) left) ∙ without-nil _ s c.if-q-eq0.true _), search rules, λ l m. m)

pub loop-preserved : goal.loop-preserved
loop-preserved c =
    let left : 0 < c.args.h - c.loop.counter = omega (arith, c.loop-test.true) in
    let next : c.args.h - c.loop.counter - 1 ≡ c.args.h - (c.loop.counter + 1) = omega arith in (
      omega (arith, c.loop.invariant.0, c.skip_packs-q.ensures.1, c.kid-p.ensures.1),
      λ s. c.loop.invariant.1 s ∙ (without-skip _ (c.skip_packs-q.ensures.0 s) (c.args.h - c.loop.counter) left) ∙ without-one _ s (omega arith) (c.skip_packs-q.ensures.2 (omega arith) s) c.kid-p.ensures.0 (c.args.h - c.loop.counter) left ∙ ap (without_last _) next,
    )

pub returns : goal.returns
returns c =
    let z : c.args.h - c.loop.counter ≡ 0 = omega (arith, c.loop-test.false) in
    (λ s. sym (c.loop.invariant.1 s ∙ ap (without_last _) z ∙ without-zero _), omega (arith, c.loop.invariant.0), λ l m. omega (arith, c.loop.invariant.0, l, z))
