-- Assumes nothing.
use mathlib.Core.Path.{refl}
use Rattle.steps.proofs.Laws.{closes}
use Rattle.ends.proofs.parsed.Goals as goal

pub returns : goal.returns
returns c = λ d. closes c.shut.ensures.shuts (rw (c.to-a.ensures, c.to-b.ensures)) refl
