-- Assumes nothing.
use mathlib.Core.Path.{refl}
use mathlib.Core.List.{[], ◌∷◌}
use native.Mathlib.Omega.{arith}
use Rattle.forms.specs.Start.{start}
use Rattle.forms.specs.Types.{type_start}
use Rattle.forms.specs.declared.types.TypeForm.TheVariants.{MemberPointer, Plain}
use Rattle.scan.proofs.Laws.{on-range, off-keys}
use Rattle.forms.proofs.types.one_dollar.Goals as goal

pub returns-in-48 : goal.returns-in-48
unfolding type_start
returns-in-48 c = λ rest. rw c.in-48.is

pub returns-in-68 : goal.returns-in-68
unfolding type_start
returns-in-68 c = λ rest. rw c.in-68.is

pub returns-in-83 : goal.returns-in-83
unfolding type_start
returns-in-83 c = λ rest. rw c.in-83.is

pub returns-in_default : goal.returns-in_default
unfolding type_start
returns-in_default known = λ rest. off-keys (36 ∷ 49 ∷ 83 ∷ 68 ∷ 48 ∷ []) 0 72 (λ c. start Plain 1) (λ c. type_start (36 ∷ c ∷ rest)) refl known.args.c (omega arith) known.in_default.if-c-lt72-own.true (known.in_default.in_default-own.rest, known.requires)

pub returns-in_default-2 : goal.returns-in_default-2
unfolding type_start
returns-in_default-2 known = λ rest. off-keys (36 ∷ 49 ∷ 83 ∷ 68 ∷ 48 ∷ []) 75 181 (λ c. start Plain 1) (λ c. type_start (36 ∷ c ∷ rest)) refl known.args.c known.in_default.if-c-lt75-own.false known.ranges.c.fits (known.in_default.in_default-own.rest, known.requires)

pub returns-in-49 : goal.returns-in-49
unfolding type_start
returns-in-49 c = λ rest. rw c.in-49.in-49-own.keys4

pub returns-in-49-2 : goal.returns-in-49-2
unfolding type_start
returns-in-49-2 known = λ rest. on-range 72 3 (λ c. start MemberPointer 2) (λ c. type_start (36 ∷ c ∷ rest)) refl known.args.c known.in-49.if-c-lt72-own.false known.in-49.if-c-lt75-own.true
