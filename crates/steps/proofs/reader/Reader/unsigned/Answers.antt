-- Assumes nothing.
use Rattle.scan.specs.Number.{read_unsigned}
use Rattle.grammar.proofs.Leaves.{unsigned-fits}
use native.Mathlib.Omega.{arith}
use Rattle.steps.proofs.Says.{leaf_room, values-leaf}
use Rattle.steps.proofs.reader.Reader.unsigned.Goals as goal

pub take_leaf-requires : goal.take_leaf-requires
take_leaf-requires c = leaf_room c.args.self.s.now c.args.st.now.at c.args.self.short (omega arith) read_unsigned unsigned-fits c.read_unsigned.ensures

pub returns : goal.returns
returns c = values-leaf read_unsigned c.read_unsigned.ensures c.take_leaf.ensures
