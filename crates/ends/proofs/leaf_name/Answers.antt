-- Assumes nothing.
use mathlib.Core.Path.{refl}
use Rattle.steps.proofs.Laws.{handed, does-ret, does-sub, sub-refused, does-keeps, closes}
use Rattle.steps.proofs.More.{does-given, does-chosen, does-other}
use Rattle.ends.proofs.leaf_name.Goals as goal

pub returns-in_err-n : goal.returns-in_err-n
returns-in_err-n c = λ d. sub-refused (closes c.shut_leaf.ensures refl refl) c.in_err-n.was (handed c.from_residual.ensures)

pub returns-then-stored : goal.returns-then-stored
returns-then-stored c = λ d. does-sub (closes c.shut_leaf.ensures refl refl) c.in_ok-n.was (does-chosen c.if-stored.true (does-keeps c.memorize_name.ensures does-ret))

pub returns-else-stored : goal.returns-else-stored
returns-else-stored c = λ d. does-sub (closes c.shut_leaf.ensures refl refl) c.in_ok-n.was (does-other c.if-stored.false (does-given does-ret))
