-- Assumes nothing.
use Rattle.scan.specs.Number.{read_guard_number}
use Rattle.grammar.proofs.Leaves.{guard-number-fits}
use native.Mathlib.Omega.{arith}
use Rattle.steps.proofs.Says.{leaf_room, values-leaf}
use Rattle.steps.proofs.reader.Reader.guard_number.Goals as goal

pub take_leaf-requires : goal.take_leaf-requires
take_leaf-requires c = leaf_room c.args.self.s.now c.args.st.now.at c.args.self.short (omega arith) read_guard_number guard-number-fits c.read_guard_number.ensures

pub returns : goal.returns
returns c = values-leaf read_guard_number c.read_guard_number.ensures c.take_leaf.ensures
