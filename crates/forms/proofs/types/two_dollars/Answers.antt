-- Assumes nothing.
use mathlib.Core.Path.{refl}
use mathlib.Core.List.{[], ◌∷◌}
use native.Mathlib.Omega.{arith}
use Rattle.forms.specs.Start.{start}
use Rattle.forms.specs.Types.{type_start}
use Rattle.forms.specs.declared.types.TypeForm.TheVariants.{Plain}
use Rattle.scan.proofs.Laws.{off-keys}
use Rattle.forms.proofs.types.two_dollars.Goals as goal

pub returns-in-81 : goal.returns-in-81
unfolding type_start
returns-in-81 c = λ rest. rw c.in-81.is

pub returns-in-86 : goal.returns-in-86
unfolding type_start
returns-in-86 c = λ rest. rw c.in-86.is

pub returns-in-90 : goal.returns-in-90
unfolding type_start
returns-in-90 c = λ rest. rw c.in-90.is

pub returns-in-84 : goal.returns-in-84
unfolding type_start
returns-in-84 c = λ rest. rw c.in-84.is

pub returns-in-89 : goal.returns-in-89
unfolding type_start
returns-in-89 c = λ rest. rw c.in-89.is

pub returns-in-67 : goal.returns-in-67
unfolding type_start
returns-in-67 c = λ rest. rw c.in-67.is

pub returns-in_default : goal.returns-in_default
unfolding type_start
returns-in_default known = λ rest. off-keys (65 ∷ 36 ∷ 66 ∷ 67 ∷ 89 ∷ 84 ∷ 90 ∷ 86 ∷ 81 ∷ []) 0 256 (λ c. start Plain 1) (λ c. type_start (36 ∷ 36 ∷ c ∷ rest)) refl known.args.c (omega arith) (omega arith) (((known.in_default.in_default-own.rest, known.requires.0), known.requires.1), known.requires.2)
