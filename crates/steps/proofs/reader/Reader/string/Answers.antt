-- Assumes nothing.
use Rattle.scan.specs.Name.{read_string}
use Rattle.grammar.proofs.Leaves.{string-fits}
use native.Mathlib.Omega.{arith}
use Rattle.steps.proofs.Says.{span-room, values-span}
use Rattle.steps.proofs.reader.Reader.string.Goals as goal

pub take_span-requires : goal.take_span-requires
take_span-requires c = span-room c.args.self.s.now c.args.st.now.at c.args.self.short (omega arith) read_string string-fits c.read_string.ensures

pub returns : goal.returns
returns c = values-span read_string c.read_string.ensures c.take_span.ensures
