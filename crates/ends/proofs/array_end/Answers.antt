-- Assumes nothing.
use mathlib.Core.Path.{refl}
use Rattle.steps.proofs.Laws.{handed, does-ret, does-sub, sub-refused, closes}
use Rattle.ends.proofs.array_end.Goals as goal

pub returns-in_err-a : goal.returns-in_err-a
returns-in_err-a c = λ d. sub-refused (closes c.above.ensures refl refl) c.in_err-a.was (handed c.from_residual.ensures)

pub returns : goal.returns
returns c = λ d. does-sub (closes c.above.ensures refl refl) c.in_ok-a.was does-ret
