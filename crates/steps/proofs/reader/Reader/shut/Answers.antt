-- Assumes nothing.
use Rattle.steps.proofs.Cells.{shuts-lays}
use Rattle.steps.proofs.reader.Reader.shut.Goals as goal

pub returns-clause-shuts : goal.returns-clause-shuts
returns-clause-shuts c = shuts-lays c.counted.ensures c.tallest-top.ensures.0 c.lay.ensures.lays
