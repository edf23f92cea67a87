-- Assumes nothing.
use Rattle.std.proofs.Common.{◌≡◌, ◌∙◌, arith}
use Rattle.text.proofs.Stores.{cut_min}
use Rattle.text.proofs.buffer.fill.Goals as goal

pub returns : goal.returns
returns c =
    let e : c.loop-i.i ≡ c.min-i-end.result = omega arith in
    c.loop-i.invariant.1 ∙ cut_min _ _ _ (e ∙ c.min-i-end.ensures)
