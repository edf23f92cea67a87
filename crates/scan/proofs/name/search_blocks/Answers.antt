-- Assumes nothing.
use mathlib.Core.Path.{refl, sym, ◌∙◌}
use native.Mathlib.Omega.{arith}
use Rattle.scan.proofs.Names.{passed}
use borrow.Author.Rules.{rules}
use Rattle.scan.proofs.name.search_blocks.Goals as goal

pub loop-i-init : goal.loop-i-init
loop-i-init c = (search rules, refl)

pub loop-i-preserved : goal.loop-i-preserved
loop-i-preserved c = (omega arith, c.loop-i.invariant.1 ∙ passed c.args.t.now c.loop-i.i _ (omega arith) (omega arith) (sym c.contains.ensures.value ∙ c.if-contains.false))

pub returns : goal.returns
returns c = c.search.ensures ∙ sym c.loop-i.invariant.1
