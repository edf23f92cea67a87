-- Assumes nothing.
use Rattle.std.proofs.Common.{refl, ◌∙◌, arith}
use Rattle.text.proofs.Letters.{spelled_none, spelled-more}
use Rattle.text.proofs.buffer.Buffer.put_letters.Goals as goal

pub loop-rest-init : goal.loop-rest-init
loop-rest-init c = (c.ranges.c.fits, refl, λ b' o' w. w)

pub loop-rest-preserved : goal.loop-rest-preserved
loop-rest-preserved c = (omega (arith, c.loop-rest.invariant.0), c.put.ensures.1 ∙ c.loop-rest.invariant.1, λ b' o' w. c.loop-rest.invariant.2 b' o' (spelled-more _ c.loop-rest.invariant.0 c.loop-rest-test.true c.put.ensures.0 w))

pub returns : goal.returns
returns c = (c.loop-rest.invariant.2 _ _ (spelled_none _ _ _ _ c.loop-rest-test.false), c.loop-rest.invariant.1)
