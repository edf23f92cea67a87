-- Assumes nothing.
use mathlib.Core.List.{[], ◌∷◌}
use Rattle.steps.proofs.Cells.{leaf-shuts}
use Rattle.steps.proofs.reader.Reader.shut_leaf.Goals as goal

pub returns : goal.returns
returns c = leaf-shuts (c.args.p ∷ c.args.q ∷ []) c.lay.ensures.lays
