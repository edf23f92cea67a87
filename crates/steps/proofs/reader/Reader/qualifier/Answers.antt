-- Assumes nothing.
use Rattle.letters.specs.Classes.{read_qualifier}
use Rattle.grammar.proofs.Leaves.{qualifier-fits}
use native.Mathlib.Omega.{arith}
use Rattle.steps.proofs.Says.{class-room, values-class}
use Rattle.steps.proofs.reader.Reader.qualifier.Goals as goal

pub take_class-requires : goal.take_class-requires
take_class-requires c = class-room c.args.self.s.now c.args.st.now.at c.args.self.short (omega arith) read_qualifier qualifier-fits c.read_qualifier.ensures

pub returns : goal.returns
returns c = values-class read_qualifier c.read_qualifier.ensures c.take_class.ensures
