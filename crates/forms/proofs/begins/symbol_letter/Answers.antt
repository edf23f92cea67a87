-- Assumes nothing.
use Prim.Native.Nat.{◌-◌}
use mathlib.Core.Path.{refl}
use mathlib.Core.List.{[], ◌∷◌}
use native.Mathlib.Omega.{arith}
use Rattle.forms.specs.Start.{start}
use Rattle.forms.specs.Begins.{symbol_start}
use Rattle.forms.specs.declared.begins.SymbolForm.TheVariants.{Variable, Member}
use Rattle.scan.proofs.Laws.{on-range, off-keys, wide}
use Rattle.forms.proofs.begins.symbol_letter.Goals as goal

pub overflow_cast-result : goal.overflow_cast-result
overflow_cast-result c = wide c.args.c 48 c.ranges.c

pub returns-in-54 : goal.returns-in-54
unfolding symbol_start
returns-in-54 c = λ rest. rw c.in-54.is

pub returns-in-55 : goal.returns-in-55
unfolding symbol_start
returns-in-55 c = λ rest. rw c.in-55.is

pub returns-in-57 : goal.returns-in-57
unfolding symbol_start
returns-in-57 c = λ rest. rw c.in-57.is

pub returns-in-89 : goal.returns-in-89
unfolding symbol_start
returns-in-89 c = λ rest. rw c.in-89.is

pub returns-in-95 : goal.returns-in-95
unfolding symbol_start
returns-in-95 c = λ rest. rw c.in-95.is

pub returns-in-36 : goal.returns-in-36
unfolding symbol_start
returns-in-36 c = λ rest. rw c.in-36.is

pub returns-in-56 : goal.returns-in-56
unfolding symbol_start
returns-in-56 c = λ rest. rw c.in-56.is

pub returns-in-48-to-52 : goal.returns-in-48-to-52
unfolding symbol_start
returns-in-48-to-52 known = λ rest. on-range 48 5 (λ c. start (Variable (c - 48)) 1) (λ c. symbol_start (c ∷ rest)) refl known.args.c (omega arith) (omega arith)

pub returns-in_default : goal.returns-in_default
unfolding symbol_start
returns-in_default known = λ rest. off-keys (56 ∷ 36 ∷ 95 ∷ 89 ∷ 57 ∷ 55 ∷ 54 ∷ []) 0 48 (λ c. start Member 0) (λ c. symbol_start (c ∷ rest)) refl known.args.c (omega arith) (omega arith) known.in_default.in_default-own.rest

pub returns-in_default-2 : goal.returns-in_default-2
unfolding symbol_start
returns-in_default-2 known = λ rest. off-keys (56 ∷ 36 ∷ 95 ∷ 89 ∷ 57 ∷ 55 ∷ 54 ∷ []) 53 203 (λ c. start Member 0) (λ c. symbol_start (c ∷ rest)) refl known.args.c (omega arith) (omega arith) known.in_default.in_default-own.rest
