-- Assumes nothing.
use mathlib.Core.Path.{refl}
use Rattle.steps.proofs.Laws.{handed, does-ret, does-sub, sub-refused, closes}
use Rattle.steps.proofs.reader.Reader.place.Goals as goal

pub returns-in_err-p : goal.returns-in_err-p
returns-in_err-p c = λ d. sub-refused (closes c.shut.ensures.shuts (rw (c.from-a.ensures, c.to-b.ensures)) refl) c.in_err-p.was (handed c.from_residual.ensures)

pub returns : goal.returns
returns c = λ d. does-sub (closes c.shut.ensures.shuts (rw (c.from-a.ensures, c.to-b.ensures)) refl) c.in_ok-p.was does-ret
