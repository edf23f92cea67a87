-- Assumes nothing.
use Rattle.letters.specs.Classes.{read_guard_marker}
use Rattle.grammar.proofs.Leaves.{guard-marker-fits}
use native.Mathlib.Omega.{arith}
use Rattle.steps.proofs.Says.{leaf_room, values-leaf}
use Rattle.steps.proofs.reader.Reader.guard_marker.Goals as goal

pub take_leaf-requires : goal.take_leaf-requires
take_leaf-requires c = leaf_room c.args.self.s.now c.args.st.now.at c.args.self.short (omega arith) read_guard_marker guard-marker-fits c.read_guard_marker.ensures

pub returns : goal.returns
returns c = values-leaf read_guard_marker c.read_guard_marker.ensures c.take_leaf.ensures
