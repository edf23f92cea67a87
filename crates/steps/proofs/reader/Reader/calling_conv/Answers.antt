-- Assumes nothing.
use Rattle.letters.specs.Classes.{read_calling_conv}
use Rattle.grammar.proofs.Leaves.{calling-conv-fits}
use native.Mathlib.Omega.{arith}
use Rattle.steps.proofs.Says.{leaf_room, values-leaf}
use Rattle.steps.proofs.reader.Reader.calling_conv.Goals as goal

pub take_leaf-requires : goal.take_leaf-requires
take_leaf-requires c = leaf_room c.args.self.s.now c.args.st.now.at c.args.self.short (omega arith) read_calling_conv calling-conv-fits c.read_calling_conv.ensures

pub returns : goal.returns
returns c = values-leaf read_calling_conv c.read_calling_conv.ensures c.take_leaf.ensures
