-- Assumes nothing.
use Rattle.letters.specs.Classes.{read_func_qualifiers}
use Rattle.grammar.proofs.Leaves.{func-qualifiers-fits}
use native.Mathlib.Omega.{arith}
use Rattle.steps.proofs.Says.{class-room, values-class}
use Rattle.steps.proofs.reader.Reader.func_qualifiers.Goals as goal

pub take_class-requires : goal.take_class-requires
take_class-requires c = class-room c.args.self.s.now c.args.st.now.at c.args.self.short (omega arith) read_func_qualifiers func-qualifiers-fits c.read_func_qualifiers.ensures

pub returns : goal.returns
returns c = values-class read_func_qualifiers c.read_func_qualifiers.ensures c.take_class.ensures
