-- Assumes nothing.
use Rattle.letters.specs.Classes.{read_storage_class_for_return}
use Rattle.grammar.proofs.Leaves.{return-class-fits}
use native.Mathlib.Omega.{arith}
use Rattle.steps.proofs.Says.{leaf_room, values-leaf}
use Rattle.steps.proofs.reader.Reader.return_class.Goals as goal

pub take_leaf-requires : goal.take_leaf-requires
take_leaf-requires c = leaf_room c.args.self.s.now c.args.st.now.at c.args.self.short (omega arith) read_storage_class_for_return return-class-fits c.read_storage_class_for_return.ensures

pub returns : goal.returns
returns c = values-leaf read_storage_class_for_return c.read_storage_class_for_return.ensures c.take_leaf.ensures
