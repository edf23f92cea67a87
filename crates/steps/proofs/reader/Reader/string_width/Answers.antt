-- Assumes nothing.
use Rattle.letters.specs.Classes.{read_string_width}
use Rattle.grammar.proofs.Leaves.{string-width-fits}
use native.Mathlib.Omega.{arith}
use Rattle.steps.proofs.Says.{leaf_room, values-leaf}
use Rattle.steps.proofs.reader.Reader.string_width.Goals as goal

pub take_leaf-requires : goal.take_leaf-requires
take_leaf-requires c = leaf_room c.args.self.s.now c.args.st.now.at c.args.self.short (omega arith) read_string_width string-width-fits c.read_string_width.ensures

pub returns : goal.returns
returns c = values-leaf read_string_width c.read_string_width.ensures c.take_leaf.ensures
