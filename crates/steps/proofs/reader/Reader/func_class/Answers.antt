-- Assumes nothing.
use Rattle.letters.specs.Classes.{read_func_class}
use Rattle.grammar.proofs.Leaves.{func-class-fits}
use native.Mathlib.Omega.{arith}
use Rattle.steps.proofs.Says.{leaf_room, values-leaf}
use Rattle.steps.proofs.reader.Reader.func_class.Goals as goal

pub take_leaf-requires : goal.take_leaf-requires
take_leaf-requires c = leaf_room c.args.self.s.now c.args.st.now.at c.args.self.short (omega arith) read_func_class func-class-fits c.read_func_class.ensures

pub returns : goal.returns
returns c = values-leaf read_func_class c.read_func_class.ensures c.take_leaf.ensures
