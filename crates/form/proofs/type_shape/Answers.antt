-- Assumes nothing.
use mathlib.Core.Path.{refl, ◌∙◌}
use mathlib.Core.List.{[], ◌∷◌}
use native.Mathlib.Omega.{arith}
use Rattle.scan.proofs.Laws.{off-keys}
use Rattle.form.specs.Kinds.{shape_of, whole_shape}
use Prim.Native.Nat.{◌≤◌}
use Rattle.form.proofs.Formed.{no-shape, past}
use Rattle.form.proofs.type_shape.Goals as goal
use Rattle.form.proofs.type_shape.Goals.{In_default, in_default-via-then-kind-lt18, in_default-via-else-kind-lt18+else-kind-lt23+else-kind-lt31+else-kind-lt38+else-kind-lt60+else-kind-lt63}

unknown : (c : In_default) → 64 ≤ c.args.kind
unknown c = elim c.in_default.branch [
  | in_default-via-then-kind-lt18 w ↦ omega (arith, w.if-kind-lt18-1.true, c.requires)
  | in_default-via-else-kind-lt18+else-kind-lt23+else-kind-lt31+else-kind-lt38+else-kind-lt60+else-kind-lt63 w ↦ past _ w.if-kind-lt63-1.false c.in_default-1.rest.1
]

pub returns-in-28-to-30 : goal.returns-in-28-to-30
unfolding whole_shape shape_of
returns-in-28-to-30 c = c.row-in-28-to-30.ensures ∙ off-keys (63 ∷ 60 ∷ 32 ∷ 31 ∷ 27 ∷ 26 ∷ 25 ∷ 24 ∷ 23 ∷ 20 ∷ 19 ∷ 18 ∷ []) 23 8 (λ k. whole_shape 28) whole_shape refl c.args.kind c.in-28-to-30.if-kind-lt23-own.false c.in-28-to-30.if-kind-lt31-own.true c.in-28-to-30.in_default-own.rest

pub returns-in-33-to-37 : goal.returns-in-33-to-37
unfolding whole_shape shape_of
returns-in-33-to-37 c = c.row-in-33-to-37.ensures ∙ off-keys (63 ∷ 60 ∷ 32 ∷ 31 ∷ 27 ∷ 26 ∷ 25 ∷ 24 ∷ 23 ∷ 20 ∷ 19 ∷ 18 ∷ []) 31 7 (λ k. whole_shape 33) whole_shape refl c.args.kind c.in-33-to-37.if-kind-lt31-own.false c.in-33-to-37.if-kind-lt38-own.true c.in-33-to-37.in_default-own.rest

pub returns-in-38-to-59 : goal.returns-in-38-to-59
unfolding whole_shape shape_of
returns-in-38-to-59 c = c.row-in-38-to-59.ensures ∙ off-keys (63 ∷ 60 ∷ 32 ∷ 31 ∷ 27 ∷ 26 ∷ 25 ∷ 24 ∷ 23 ∷ 20 ∷ 19 ∷ 18 ∷ []) 38 22 (λ k. whole_shape 38) whole_shape refl c.args.kind c.in-38-to-59.if-kind-lt38-own.false c.in-38-to-59.if-kind-lt60-own.true c.in-38-to-59.in_default-own.rest

pub returns-in-61-to-62 : goal.returns-in-61-to-62
unfolding whole_shape shape_of
returns-in-61-to-62 c = c.row-in-61-to-62.ensures ∙ off-keys (63 ∷ 60 ∷ 32 ∷ 31 ∷ 27 ∷ 26 ∷ 25 ∷ 24 ∷ 23 ∷ 20 ∷ 19 ∷ 18 ∷ []) 60 3 (λ k. whole_shape 61) whole_shape refl c.args.kind c.in-61-to-62.if-kind-lt60-own.false c.in-61-to-62.if-kind-lt63-own.true c.in-61-to-62.in_default-own.rest

pub returns-in_default : goal.returns-in_default
unfolding whole_shape shape_of
returns-in_default c = c.row-in_default.ensures ∙ no-shape _ (unknown (goal.at.returns-in_default c).In_default)
