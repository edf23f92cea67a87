-- Assumes nothing.
use Rattle.std.proofs.Common.{[], ◌∷◌, refl}
use Rattle.text.specs.Words.{word}
use Rattle.text.specs.Letters.{piece}
use Rattle.text.proofs.Letters.{missing}
use Rattle.text.proofs.words.fourth.Goals as goal

pub returns-in-50 : goal.returns-in-50
unfolding piece word
returns-in-50 c = rw c.in-50.is

pub returns-in-51 : goal.returns-in-51
unfolding piece word
returns-in-51 c = rw c.in-51.is

pub returns-in-52 : goal.returns-in-52
unfolding piece word
returns-in-52 c = rw c.in-52.is

pub returns-in-53 : goal.returns-in-53
unfolding piece word
returns-in-53 c = rw c.in-53.is

pub returns-in-54 : goal.returns-in-54
unfolding piece word
returns-in-54 c = rw c.in-54.is

pub returns-in-55 : goal.returns-in-55
unfolding piece word
returns-in-55 c = rw c.in-55.is

pub returns-in-56 : goal.returns-in-56
unfolding piece word
returns-in-56 c = rw c.in-56.is

pub returns-in-57 : goal.returns-in-57
unfolding piece word
returns-in-57 c = rw c.in-57.is

pub returns-in-58 : goal.returns-in-58
unfolding piece word
returns-in-58 c = rw c.in-58.is

pub returns-in-59 : goal.returns-in-59
unfolding piece word
returns-in-59 c = rw c.in-59.is

pub returns-in-60 : goal.returns-in-60
unfolding piece word
returns-in-60 c = rw c.in-60.is

pub returns-in-62 : goal.returns-in-62
unfolding piece word
returns-in-62 c = rw c.in-62.is

pub returns-in-65 : goal.returns-in-65
unfolding piece word
returns-in-65 c = rw c.in-65.is

pub returns-in-66 : goal.returns-in-66
unfolding piece word
returns-in-66 c = rw c.in-66.is

pub returns-in-70 : goal.returns-in-70
unfolding piece word
returns-in-70 c = rw c.in-70.is

pub returns-in-71 : goal.returns-in-71
unfolding piece word
returns-in-71 c = rw c.in-71.is

pub returns-in-73 : goal.returns-in-73
unfolding piece word
returns-in-73 c = rw c.in-73.is

pub returns-in-74 : goal.returns-in-74
unfolding piece word
returns-in-74 c = rw c.in-74.is

pub returns-in-141 : goal.returns-in-141
unfolding piece word
returns-in-141 c = rw c.in-141.is

pub returns-in_default : goal.returns-in_default
unfolding piece word
returns-in_default c = missing 3 (141 ∷ 74 ∷ 73 ∷ 71 ∷ 70 ∷ 66 ∷ 65 ∷ 62 ∷ 60 ∷ 59 ∷ 58 ∷ 57 ∷ 56 ∷ 55 ∷ 54 ∷ 53 ∷ 52 ∷ 51 ∷ 50 ∷ []) refl c.args.w c.in_default.in_default-own.rest
