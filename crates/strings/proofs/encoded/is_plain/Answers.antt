-- Assumes nothing.
use mathlib.Core.Path.{refl}
use mathlib.Core.Bool.{true, false}
use mathlib.Core.List.{[], ◌∷◌}
use mathlib.Core.Logic.{⊎_elim, inl, inr}
use Prim.{tt}
use native.Mathlib.Omega.{arith}
use Rattle.strings.specs.Encoded.{is_plain}
use Rattle.scan.proofs.Laws.{on-range, off-keys}
use Rattle.strings.proofs.encoded.is_plain.Goals as goal

pub returns-in_default : goal.returns-in_default
returns-in_default c = off-keys (36 ∷ 95 ∷ []) 0 48 (λ c. false) is_plain refl c.args.c (omega arith) (omega arith) ((tt, λ e. c.in_default.in_default-own.rest.1 (inr e)), λ e. c.in_default.in_default-own.rest.1 (inl e))

pub returns-in_default-2 : goal.returns-in_default-2
returns-in_default-2 c = off-keys (36 ∷ 95 ∷ []) 58 7 (λ c. false) is_plain refl c.args.c (omega arith) (omega arith) ((tt, λ e. c.in_default.in_default-own.rest.1 (inr e)), λ e. c.in_default.in_default-own.rest.1 (inl e))

pub returns-in_default-3 : goal.returns-in_default-3
returns-in_default-3 c = off-keys (36 ∷ 95 ∷ []) 91 6 (λ c. false) is_plain refl c.args.c (omega arith) (omega arith) ((tt, λ e. c.in_default.in_default-own.rest.1 (inr e)), λ e. c.in_default.in_default-own.rest.1 (inl e))

pub returns-in_default-4 : goal.returns-in_default-4
returns-in_default-4 c = off-keys (36 ∷ 95 ∷ []) 123 133 (λ c. false) is_plain refl c.args.c (omega arith) (omega arith) ((tt, λ e. c.in_default.in_default-own.rest.1 (inr e)), λ e. c.in_default.in_default-own.rest.1 (inl e))

pub returns-in-48-to-57 : goal.returns-in-48-to-57
returns-in-48-to-57 c = ⊎_elim (λ e. rw e) (λ e. rw e) c.in-48-to-57.in-48-to-57-own.keys1

pub returns-in-48-to-57-2 : goal.returns-in-48-to-57-2
returns-in-48-to-57-2 c = on-range 48 10 (λ c. true) is_plain refl c.args.c (omega arith) (omega arith)

pub returns-in-48-to-57-3 : goal.returns-in-48-to-57-3
returns-in-48-to-57-3 c = on-range 65 26 (λ c. true) is_plain refl c.args.c (omega arith) (omega arith)

pub returns-in-48-to-57-4 : goal.returns-in-48-to-57-4
returns-in-48-to-57-4 c = on-range 97 26 (λ c. true) is_plain refl c.args.c (omega arith) (omega arith)
