-- Assumes nothing.
use mathlib.Core.Path.{refl}
use Rattle.grammar.specs.Grammar.{body}
use Rattle.steps.proofs.Laws.{handed, reads-deep, reads-body, does-part, does-sub, sub-refused, closes}
use Rattle.ends.proofs.md5_symbol.Goals as goal

pub returns-in_err-left : goal.returns-in_err-left
returns-in_err-left c = reads-deep c.open.ensures c.in_err-left.was (handed c.from_residual.ensures)

pub returns-in_err-n : goal.returns-in_err-n
unfolding body
returns-in_err-n c = reads-body c.open.ensures c.in_ok-left.was (sub-refused (does-part c.md5_name.ensures) c.in_err-n.was (handed c.from_residual-in_err-n.ensures))

pub returns : goal.returns
unfolding body
returns c = reads-body c.open.ensures c.in_ok-left.was (does-sub (does-part c.md5_name.ensures) c.in_ok-n.was (closes c.above.ensures refl refl))
