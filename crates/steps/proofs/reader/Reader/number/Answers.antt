-- Assumes nothing.
use Rattle.scan.specs.Number.{read_number}
use Rattle.scan.proofs.Fits.{number_fits}
use Rattle.steps.proofs.Says.{leaf_room, values-leaf}
use native.Mathlib.Omega.{arith}
use Rattle.steps.proofs.reader.Reader.number.Goals as goal

pub take_leaf-requires : goal.take_leaf-requires
take_leaf-requires c = leaf_room c.args.self.s.now c.args.st.now.at c.args.self.short (omega arith) read_number number_fits c.read_number.ensures

pub returns : goal.returns
returns c = values-leaf read_number c.read_number.ensures c.take_leaf.ensures
