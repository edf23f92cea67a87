-- Assumes nothing.
use Prim.Native.Nat.{◌+◌}
use mathlib.Core.Path.{sym, ◌∙◌}
use mathlib.Core.List.{[], ◌∷◌}
use native.Mathlib.Omega.{arith}
use lib.Seq.{drop-drop}
use Rattle.forms.specs.Types.{type_reference}
use Rattle.letters.proofs.Spelled.{sized-qualifier, stays}
use Rattle.forms.proofs.Starts.{starts-at}
use Rattle.forms.proofs.types.type_reference.Goals as goal

pub returns-then-not-consume : goal.returns-then-not-consume
unfolding type_reference
returns-then-not-consume c = rw (sym c.consume.ensures ∙ c.if-not-consume.true) c.digit_behind.ensures

pub overflow_add-at : goal.overflow_add-at
overflow_add-at c = omega (arith, (starts-at (36 ∷ 36 ∷ 67 ∷ []) c.args.s.now c.args.at (omega arith) ((sym c.consume-2.ensures ∙ c.if-consume.true))))

pub overflow_add-class : goal.overflow_add-class
overflow_add-class c = omega (arith, (stays sized-qualifier c.args.s.now (c.args.at + 3) c.read_qualifier-class.result c.read_qualifier-class.ensures (omega (arith, (starts-at (36 ∷ 36 ∷ 67 ∷ []) c.args.s.now c.args.at (omega arith) ((sym c.consume-2.ensures ∙ c.if-consume.true)))))))

pub digit_behind-requires-then-consume : goal.digit_behind-requires-then-consume
digit_behind-requires-then-consume c = omega (arith, (stays sized-qualifier c.args.s.now (c.args.at + 3) c.read_qualifier-class.result c.read_qualifier-class.ensures (omega (arith, (starts-at (36 ∷ 36 ∷ 67 ∷ []) c.args.s.now c.args.at (omega arith) ((sym c.consume-2.ensures ∙ c.if-consume.true)))))))

pub returns-then-consume : goal.returns-then-consume
unfolding type_reference
returns-then-consume c = rw ((sym c.consume.ensures ∙ c.if-not-consume.false), (sym c.consume-2.ensures ∙ c.if-consume.true), drop-drop 3 c.args.at c.args.s.now, sym c.read_qualifier-class.ensures) c.digit_behind-then-consume.ensures

pub returns-then-consume-2 : goal.returns-then-consume-2
unfolding type_reference
returns-then-consume-2 c = rw ((sym c.consume.ensures ∙ c.if-not-consume.false), (sym c.consume-2.ensures ∙ c.if-consume.false), sym c.consume-3.ensures ∙ c.if-consume-2.true)

pub returns-then-consume-3 : goal.returns-then-consume-3
unfolding type_reference
returns-then-consume-3 c = rw ((sym c.consume.ensures ∙ c.if-not-consume.false), (sym c.consume-2.ensures ∙ c.if-consume.false), (sym c.consume-3.ensures ∙ c.if-consume-2.false), sym c.consume-4.ensures ∙ c.if-consume-3.true)

pub digit_behind-requires-2 : goal.digit_behind-requires-2
digit_behind-requires-2 c = omega (arith, (starts-at (36 ∷ []) c.args.s.now c.args.at (omega arith) ((sym c.consume.ensures ∙ c.if-not-consume.false))))

pub returns : goal.returns
unfolding type_reference
returns c = rw ((sym c.consume.ensures ∙ c.if-not-consume.false), (sym c.consume-2.ensures ∙ c.if-consume.false), (sym c.consume-3.ensures ∙ c.if-consume-2.false), sym c.consume-4.ensures ∙ c.if-consume-3.false) c.digit_behind-2.ensures
