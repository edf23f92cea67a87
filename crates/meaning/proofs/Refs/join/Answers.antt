-- Assumes nothing.
use mathlib.Core.Path.{◌∙◌, sym}
use native.Mathlib.Omega.{arith}
use Rattle.meaning.proofs.Compare.{tree-low, kid-same}
use Rattle.meaning.proofs.Union.{links-fall}
use Rattle.meaning.proofs.Refs.join.Goals as goal

pub overflow_sub-pair : goal.overflow_sub-pair
overflow_sub-pair c = (tree-low _ _ _ _ c.loop-x.invariant.same c.loop-x-test.true).0

pub overflow_sub-pair-in-loop-x : goal.overflow_sub-pair-in-loop-x
overflow_sub-pair-in-loop-x c = (tree-low _ _ _ _ c.loop-x.invariant.same c.loop-x-test.true).1

pub find-x-requires : goal.find-x-requires
find-x-requires c = links-fall (c.link.ensures.holds _ c.loop-x.invariant.links (sym c.loop-x.invariant.same))

pub find-y-requires : goal.find-y-requires
find-y-requires c = links-fall (c.find-x.ensures.way.kept _ (c.link.ensures.holds _ c.loop-x.invariant.links (sym c.loop-x.invariant.same)))

pub loop-x-smaller : goal.loop-x-smaller
loop-x-smaller c = omega (arith, c.find-x.ensures.way.low, c.kids-a.ensures.first, (tree-low _ _ _ _ c.loop-x.invariant.same c.loop-x-test.true))

pub loop-x-preserved : goal.loop-x-preserved
loop-x-preserved c =
    let ok = c.link.ensures.holds _ c.loop-x.invariant.links (sym c.loop-x.invariant.same) in
    let on = c.find-x.ensures.way.kept _ ok in
    let low = tree-low _ _ _ _ c.loop-x.invariant.same c.loop-x-test.true in
    record {
      first_low = omega (arith, c.find-x.ensures.way.low, c.kids-a.ensures.first, c.loop-x.invariant);
      second_low = omega (arith, c.find-y.ensures.way.low, c.kids-a.ensures.second, c.loop-x.invariant);
      links = c.find-y.ensures.way.kept _ on;
      same = c.find-x.ensures.way.same _ ok ∙ kid-same _ _ _ _ low.0 low.1 c.kids-a.ensures.first.0 c.kids-a.ensures.second.0 c.loop-x.invariant.same ∙ sym (c.find-y.ensures.way.same _ on);
    }
