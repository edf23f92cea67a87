-- Assumes nothing.
use mathlib.Core.Path.{sym, ◌∙◌}
use Rattle.meaning.proofs.Union.{is-some, is-none, way_next, way-past}
use Rattle.meaning.proofs.links.find.Goals as goal

pub returns-in_default-next : goal.returns-in_default-next
returns-in_default-next c =
    let y = is-some c.in-Some.ensures in
    record {
      way = way_next _ c.loop-y.invariant.1 c.loop-y.invariant.0 y.0 y.1;
      ends = is-none (sym c.in_default-next.is ∙ c.next-in-Some.ensures);
    }

pub loop-y-preserved : goal.loop-y-preserved
loop-y-preserved c =
    let y = is-some c.in-Some.ensures in
    let z = is-some c.in-Some-next.ensures in
    (way-past _ c.loop-y.invariant.1 c.loop-y.invariant.0 y.0 y.1 z.0 z.1 c.point.ensures, c.point.ensures.falls c.loop-y.invariant.1)
