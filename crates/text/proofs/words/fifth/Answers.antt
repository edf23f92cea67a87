-- Assumes nothing.
use Rattle.std.proofs.Common.{[], ◌∷◌, refl}
use Rattle.text.specs.Words.{word}
use Rattle.text.specs.Letters.{piece}
use Rattle.text.proofs.Letters.{missing}
use Rattle.text.proofs.words.fifth.Goals as goal

pub returns-in-55 : goal.returns-in-55
unfolding piece word
returns-in-55 c = rw c.in-55.is

pub returns-in-59 : goal.returns-in-59
unfolding piece word
returns-in-59 c = rw c.in-59.is

pub returns-in-62 : goal.returns-in-62
unfolding piece word
returns-in-62 c = rw c.in-62.is

pub returns-in-70 : goal.returns-in-70
unfolding piece word
returns-in-70 c = rw c.in-70.is

pub returns-in_default : goal.returns-in_default
unfolding piece word
returns-in_default c = missing 4 (70 ∷ 62 ∷ 59 ∷ 55 ∷ []) refl c.args.w c.in_default.in_default-own.rest
