-- Assumes nothing.
use Rattle.letters.specs.Classes.{read_storage_class}
use Rattle.grammar.proofs.Leaves.{storage-class-fits}
use native.Mathlib.Omega.{arith}
use Rattle.steps.proofs.Says.{class-room, values-class}
use Rattle.steps.proofs.reader.Reader.storage_class.Goals as goal

pub take_class-requires : goal.take_class-requires
take_class-requires c = class-room c.args.self.s.now c.args.st.now.at c.args.self.short (omega arith) read_storage_class storage-class-fits c.read_storage_class.ensures

pub returns : goal.returns
returns c = values-class read_storage_class c.read_storage_class.ensures c.take_class.ensures
