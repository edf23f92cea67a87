-- Assumes nothing.
use mathlib.Core.Path.{refl}
use Rattle.grammar.specs.Grammar.{body}
use Rattle.steps.proofs.Laws.{handed, reads-deep, reads-body, closes}
use Rattle.ends.proofs.no_type.Goals as goal

pub returns-in_err-open : goal.returns-in_err-open
returns-in_err-open c = reads-deep c.open.ensures c.in_err-open.was (handed c.from_residual.ensures)

pub returns : goal.returns
unfolding body
returns c = reads-body c.open.ensures c.in_ok-open.was (closes c.shut_leaf.ensures refl refl)
