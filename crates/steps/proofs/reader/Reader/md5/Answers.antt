-- Assumes nothing.
use Rattle.scan.specs.Name.{read_md5_name}
use Rattle.grammar.proofs.Leaves.{md5-fits}
use native.Mathlib.Omega.{arith}
use Rattle.steps.proofs.Says.{span-room, values-span}
use Rattle.steps.proofs.reader.Reader.md5.Goals as goal

pub take_span-requires : goal.take_span-requires
take_span-requires c = span-room c.args.self.s.now c.args.st.now.at c.args.self.short (omega arith) read_md5_name md5-fits c.read_md5_name.ensures

pub returns : goal.returns
returns c = values-span read_md5_name c.read_md5_name.ensures c.take_span.ensures
