-- Assumes nothing.
use Rattle.std.proofs.Common.{arith, rules}
use Rattle.meaning.specs.Tree.{tree_of}
use Rattle.serializer.proofs.Walks.{count-nil, count-one, count-skip}
use Rattle.serializer.proofs.lists.count_some.Goals as goal

pub loop-p-init : goal.loop-p-init
loop-p-init c = (omega (arith, c.skip_packs-p.ensures.1), λ s. omega (arith, count-skip (tree_of c.args.table.now s c.args.r) (c.skip_packs-p.ensures.0 s)), c.skip_packs-p.ensures.2)

pub loop-p-smaller : goal.loop-p-smaller
loop-p-smaller c = omega (arith, c.skip_packs-p-in-loop-p.ensures.1, c.kid.ensures.1)

pub loop-p-preserved : goal.loop-p-preserved
loop-p-preserved c = (
  omega (arith, c.skip_packs-p-in-loop-p.ensures.1, c.kid.ensures.1, c.loop-p.invariant.0),
  λ s. omega (arith, c.loop-p.invariant.1 s, count-one c.args.table.now s c.loop-p-test.true (c.loop-p.invariant.2 c.loop-p-test.true s) c.kid.ensures.0, count-skip (tree_of c.args.table.now s c.kid.result) (c.skip_packs-p-in-loop-p.ensures.0 s)),
  c.skip_packs-p-in-loop-p.ensures.2,
)

pub returns : goal.returns
returns c = (λ s. omega (arith, c.loop-p.invariant.1 s, count-nil c.args.table.now s {p = c.loop-p.p} (omega arith)), search rules)
