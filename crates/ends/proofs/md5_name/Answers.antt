-- Assumes nothing.
use mathlib.Core.Path.{refl}
use Rattle.grammar.specs.Grammar.{body}
use Rattle.steps.proofs.Laws.{handed, reads-deep, reads-body, does-value, value-bad, closes}
use Rattle.steps.proofs.More.{does-here}
use Rattle.ends.proofs.md5_name.Goals as goal

pub returns-in_err-open : goal.returns-in_err-open
returns-in_err-open c = reads-deep c.open.ensures c.in_err-open.was (handed c.from_residual.ensures)

pub returns-in_err-n : goal.returns-in_err-n
unfolding body
returns-in_err-n c = reads-body c.open.ensures c.in_ok-open.was (does-here (value-bad c.md5.ensures c.in_err-n.was (handed c.from_residual-in_err-n.ensures)))

pub returns : goal.returns
unfolding body
returns c = reads-body c.open.ensures c.in_ok-open.was (does-here (does-value c.md5.ensures c.in_ok-n.was (closes c.shut_leaf.ensures (rw (c.from-from.ensures, c.saturating_sub.ensures)) refl)))
