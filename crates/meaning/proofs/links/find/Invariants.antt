use Rattle.meaning.specs.Links.{Falls, Way}
use Rattle.meaning.proofs.links.find.Given as goal

abbrev pub invariant-loop-y : goal.invariant-loop-y
invariant-loop-y l = Way l.initial.links l.links l.r l.p × Falls l.links

abbrev pub decreases-loop-y : goal.decreases-loop-y
decreases-loop-y l = l.p
