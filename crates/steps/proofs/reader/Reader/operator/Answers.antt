-- Assumes nothing.
use Rattle.operators.specs.Operators.{read_operator}
use Rattle.grammar.proofs.Leaves.{operator-fits}
use native.Mathlib.Omega.{arith}
use Rattle.steps.proofs.Says.{leaf_room, values-leaf}
use Rattle.steps.proofs.reader.Reader.operator.Goals as goal

pub take_leaf-requires : goal.take_leaf-requires
take_leaf-requires c = leaf_room c.args.self.s.now c.args.st.now.at c.args.self.short (omega arith) read_operator operator-fits c.read_operator.ensures

pub returns : goal.returns
returns c = values-leaf read_operator c.read_operator.ensures c.take_leaf.ensures
