-- The writers call each other: each writes what the Serializer's function of its tree says.
-- Assumes nothing.
use Prim.Native.Nat.{◌/◌}
use mathlib.Core.Path.{◌∙◌, refl, sym, ap, ap₂}
use mathlib.Core.Logic.{inl, inr}
use native.Mathlib.Omega.{arith}
use Rattle.meaning.specs.Tree.{content_of, tree_of}
use Rattle.text.specs.Emit.{put, when, lit, ◌⨾◌, unless}
use Rattle.text.specs.Words.{word}
use Rattle.text.proofs.Seq.{writes-seq, writes-none, writes-past, writes-is, writes-when, wrote-seq, wrote-is, wrote_none, wrote-past}
use Rattle.serializer.specs.Serializer.{write_post, no_cast, comma, write_pre, write_name, write_one_name, is_empty, write_first, write_own_operator, write_spaced_operator, write_one_qual}
use Rattle.serializer.proofs.Nodes.{node_at, not-empty, empty-none}
use Rattle.writer.proofs.Falls.{under, below}
use Rattle.writer.proofs.ByType.{post-pointer, post-rest, post-none, cast-not, kind-cell, pre-class, pre-plain, pre-none, post-function, serialize-not, serialize-is, unless-so, unless_not, pointee-member, pointee-function, pointee-array, pointee-rest, pointee-none, pre-pointer}
use Rattle.node.specs.Kind.{kind_number, Array, CXXVBTable, CXXVFTable, VCallThunk, Var, MemberFunction, NonMemberFunction, MemberFunctionPointer, Operator, ParsedName, RttiBaseClassDescriptor, RttiTypeDescriptor, Template}
use borrow.Author.Rules.{rules}
use Rattle.serializer.proofs.Walks.{kind-low, guard-not}
use Rattle.writer.proofs.ByName.{cast_is, cast-other, cast-member, first-is, entry-none, entry-is, empty-is, name-none, name-is, one_none, one_plain, own-none, own-operator, own-parsed, own-anonymous, own-rest, operator-rest, tmpl-none, tmpl-some, ones_none, or-false, scope-none, scope-is}
use Rattle.serializer.specs.Lists.{entry_after, last_ones, last_entry}
use Rattle.text.specs.Spaces.{asks_by, write_space, or}
use Rattle.serializer.specs.Pieces.{guard_of, cast_of}
use Rattle.serializer.proofs.Chain.{ones_halves, ones-one, ones-zero, types-count}
use Rattle.writer.proofs.Source.+writers.Goals as goal
use Rattle.writer.proofs.Source.+writers.Goals.{back-then-is_past-via-then-is_past, back-then-is_past-via-else-is_past+then-r-eq0, front-then-is_past-via-then-is_past, front-then-is_past-via-else-is_past+then-r-eq0, name-then-is_past-via-then-is_past, name-then-is_past-via-else-is_past+then-r-eq0, one-then-is_past-via-then-is_past, one-then-is_past-via-else-is_past+then-r-eq0, parsed-then-is_past-via-then-is_past, parsed-then-is_past-via-else-is_past+then-kind_at-ne-PARSE_RESULT, run-then-is_past-via-then-is_past, run-then-is_past-via-else-is_past+then-r-eq0, run-then-is_past-via-else-is_past+else-r-eq0+then-n-eq0, leading-then-has-via-then-has, leading-then-has-via-else-has+then-has-2, front-in_default-via-then-k-lt28, front-in_default-via-else-k-lt28+else-k-lt31+else-k-lt38, own-in_default-via-then-k-lt14, own-in_default-via-else-k-lt14+else-k-lt17}

pub back-returns-then-is_past : goal.back-returns-then-is_past
back-returns-then-is_past t c = elim c.then-is_past.branch [
  | back-then-is_past-via-then-is_past w ↦ writes-past w.if-is_past.ensures
  | back-then-is_past-via-else-is_past+then-r-eq0 w ↦ writes-is (post-none _ _ _ w.if-r-eq0.true) writes-none
]

pub back-function-requires : goal.back-function-requires
back-function-requires t c = (omega (arith, c.requires-raw), (omega arith, inl (sym c.kind-k.ensures ∙ c.in-18.is)))

pub back-returned-requires : goal.back-returned-requires
back-returned-requires t c = (omega (arith, c.requires-raw), (omega arith, sym c.kind-k.ensures ∙ c.in-19.is))

pub back-function-requires-in-20 : goal.back-function-requires-in-20
back-function-requires-in-20 t c = (omega (arith, c.requires-raw), (omega arith, inr (sym c.kind-k.ensures ∙ c.in-20.is)))

pub back-scope-requires : goal.back-scope-requires
back-scope-requires t c = omega (arith, c.requires-raw, (under c.kid-a.result c.args.r (omega (arith, c.kid-a.ensures.1, c.if-r-eq0.false))))

pub back-vftable-requires : goal.back-vftable-requires
back-vftable-requires t c = omega (arith, c.requires-raw, (under c.kid-a.result c.args.r (omega (arith, c.kid-a.ensures.1, c.if-r-eq0.false))))

pub back-back-requires : goal.back-back-requires
back-back-requires t c = omega (arith, c.requires-raw, (under c.kid-a.result c.args.r (omega (arith, c.kid-a.ensures.1, c.if-r-eq0.false))))

pub back-back-requires-in-32 : goal.back-back-requires-in-32
back-back-requires-in-32 t c = omega (arith, c.requires-raw, (under c.kid-a.result c.args.r (omega (arith, c.kid-a.ensures.1, c.if-r-eq0.false))))

pub back-back-requires-in-28-to-30 : goal.back-back-requires-in-28-to-30
back-back-requires-in-28-to-30 t c = omega (arith, c.requires-raw, (under c.kid-a.result c.args.r (omega (arith, c.kid-a.ensures.1, c.if-r-eq0.false))))

pub back-returns-in-18 : goal.back-returns-in-18
back-returns-in-18 t c = c.function.ensures

pub back-returns-in-19 : goal.back-returns-in-19
back-returns-in-19 t c = c.returned.ensures

pub back-returns-in-20 : goal.back-returns-in-20
back-returns-in-20 t c = c.function-in-20.ensures

pub back-returns-in-21 : goal.back-returns-in-21
unfolding write_post word
back-returns-in-21 t c = writes-is (ap (write_post _) (node_at _ _ (omega arith) (kind_number CXXVBTable) c.kind-k.ensures c.in-21.is c.kid-a.ensures.0 refl refl refl refl refl refl)) (writes-seq c.scope.ensures c.put_word.ensures)

pub back-returns-in-22 : goal.back-returns-in-22
unfolding write_post
back-returns-in-22 t c = writes-is (ap (write_post _) (node_at _ _ (omega arith) (kind_number CXXVFTable) c.kind-k.ensures c.in-22.is c.kid-a.ensures.0 refl refl refl refl refl refl)) c.vftable.ensures

pub back-returns-in-23 : goal.back-returns-in-23
unfolding write_post content_of
back-returns-in-23 t c = writes-is (ap (write_post _) (node_at _ _ (omega arith) (kind_number VCallThunk) c.kind-k.ensures c.in-23.is refl refl refl c.number.ensures refl refl refl)) c.put_flat.ensures

pub back-returns-in-31 : goal.back-returns-in-31
unfolding write_post content_of
back-returns-in-31 t c = writes-is (ap (write_post _) (node_at _ _ (omega arith) (kind_number Array) c.kind-k.ensures c.in-31.is c.kid-a.ensures.0 refl refl refl c.number-in-31.ensures refl refl)) (writes-seq c.put.ensures (writes-seq c.put_decimal.ensures (writes-seq c.put-in-31.ensures c.back.ensures)))

pub back-returns-in-32 : goal.back-returns-in-32
unfolding write_post
back-returns-in-32 t c = writes-is (ap (write_post _) (node_at _ _ (omega arith) (kind_number Var) c.kind-k.ensures c.in-32.is c.kid-a.ensures.0 refl refl refl refl refl refl)) c.back-in-32.ensures

pub back-returns-in-28-to-30 : goal.back-returns-in-28-to-30
back-returns-in-28-to-30 t c = writes-is (post-pointer _ _ _ (omega arith) c.kind-k.ensures c.kid-a.ensures.0 (c.kind_at.ensures _) (omega (arith, c.in-28-to-30.if-k-lt28-own.false)) (omega (arith, c.in-28-to-30.if-k-lt31-own.true))) (writes-seq c.put_closing.ensures c.back-in-28-to-30.ensures)

pub back-returns-then-k-lt28 : goal.back-returns-then-k-lt28
back-returns-then-k-lt28 t c = writes-is (post-rest _ _ _ (omega arith) c.kind-k.ensures (λ e. omega arith) (λ e. omega arith) (λ e. omega arith) (λ e. omega arith) (λ e. omega arith) (λ e. omega arith) (λ e. omega arith) (λ e. omega arith) (inl (omega arith))) writes-none

pub back-returns-else-k-lt31 : goal.back-returns-else-k-lt31
back-returns-else-k-lt31 t c = writes-is (post-rest _ _ _ (omega arith) c.kind-k.ensures (λ e. omega arith) (λ e. omega arith) (λ e. omega arith) (λ e. omega arith) (λ e. omega arith) (λ e. omega arith) (λ e. omega arith) (λ e. omega arith) (inr (omega arith))) writes-none

pub cast-returns-then-kind_at-ne-PARSE_RESULT : goal.cast-returns-then-kind_at-ne-PARSE_RESULT
unfolding no_cast
cast-returns-then-kind_at-ne-PARSE_RESULT t c = writes-is (cast-not _ _ (λ e. c.if-kind_at-ne-PARSE_RESULT.true (c.kind_at.ensures _ ∙ e))) c.put_operator.ensures

pub cast-overflow_sub-up : goal.cast-overflow_sub-up
cast-overflow_sub-up t c = (kind-low c.args.self.now.table.now c.args.self.now.symbol.now c.args.up (c.kind_at.ensures c.args.self.now.symbol.now) (omega (arith, c.if-kind_at-ne-PARSE_RESULT.false)))

pub cast-returns-then-kind_at-ne-MEMBER_FUNCTION : goal.cast-returns-then-kind_at-ne-MEMBER_FUNCTION
unfolding no_cast
cast-returns-then-kind_at-ne-MEMBER_FUNCTION t c = writes-is (cast_is _ _ _ (kind-low c.args.self.now.table.now c.args.self.now.symbol.now c.args.up (c.kind_at.ensures c.args.self.now.symbol.now) (omega (arith, c.if-kind_at-ne-PARSE_RESULT.false))) (sym (kind-cell c.args.self.now.table.now c.args.self.now.symbol.now c.args.up (kind-low c.args.self.now.table.now c.args.self.now.symbol.now c.args.up (c.kind_at.ensures c.args.self.now.symbol.now) (omega (arith, c.if-kind_at-ne-PARSE_RESULT.false)))) ∙ sym (c.kind_at.ensures _) ∙ c.if-kind_at-ne-PARSE_RESULT.false) c.kid-ty.ensures.0 ∙ cast-other _ _ (λ e. c.if-kind_at-ne-MEMBER_FUNCTION.true (c.kind_at-2.ensures _ ∙ e))) c.put_operator-then-kind_at-ne-MEMBER_FUNCTION.ensures

pub cast-overflow_sub-ty : goal.cast-overflow_sub-ty
cast-overflow_sub-ty t c = (kind-low c.args.self.now.table.now c.args.self.now.symbol.now c.kid-ty.result (c.kind_at-2.ensures c.args.self.now.symbol.now) (omega (arith, c.if-kind_at-ne-MEMBER_FUNCTION.false)))

pub cast-front-requires : goal.cast-front-requires
cast-front-requires t c = omega (arith, c.requires-raw, (under c.kid-to.result c.args.up (omega (arith, c.kid-to.ensures.1, c.kid-ty.ensures.1, (kind-low c.args.self.now.table.now c.args.self.now.symbol.now c.args.up (c.kind_at.ensures c.args.self.now.symbol.now) (omega (arith, c.if-kind_at-ne-PARSE_RESULT.false))), (kind-low c.args.self.now.table.now c.args.self.now.symbol.now c.kid-ty.result (c.kind_at-2.ensures c.args.self.now.symbol.now) (omega (arith, c.if-kind_at-ne-MEMBER_FUNCTION.false)))))))

pub cast-back-requires : goal.cast-back-requires
cast-back-requires t c = omega (arith, c.requires-raw, (under c.kid-to.result c.args.up (omega (arith, c.kid-to.ensures.1, c.kid-ty.ensures.1, (kind-low c.args.self.now.table.now c.args.self.now.symbol.now c.args.up (c.kind_at.ensures c.args.self.now.symbol.now) (omega (arith, c.if-kind_at-ne-PARSE_RESULT.false))), (kind-low c.args.self.now.table.now c.args.self.now.symbol.now c.kid-ty.result (c.kind_at-2.ensures c.args.self.now.symbol.now) (omega (arith, c.if-kind_at-ne-MEMBER_FUNCTION.false)))))))

pub cast-returns : goal.cast-returns
unfolding word
cast-returns t c = writes-is (cast_is _ _ _ (kind-low c.args.self.now.table.now c.args.self.now.symbol.now c.args.up (c.kind_at.ensures c.args.self.now.symbol.now) (omega (arith, c.if-kind_at-ne-PARSE_RESULT.false))) (sym (kind-cell c.args.self.now.table.now c.args.self.now.symbol.now c.args.up (kind-low c.args.self.now.table.now c.args.self.now.symbol.now c.args.up (c.kind_at.ensures c.args.self.now.symbol.now) (omega (arith, c.if-kind_at-ne-PARSE_RESULT.false)))) ∙ sym (c.kind_at.ensures _) ∙ c.if-kind_at-ne-PARSE_RESULT.false) c.kid-ty.ensures.0 ∙ cast-member _ _ _ (kind-low c.args.self.now.table.now c.args.self.now.symbol.now c.kid-ty.result (c.kind_at-2.ensures c.args.self.now.symbol.now) (omega (arith, c.if-kind_at-ne-MEMBER_FUNCTION.false))) (sym (kind-cell c.args.self.now.table.now c.args.self.now.symbol.now c.kid-ty.result (kind-low c.args.self.now.table.now c.args.self.now.symbol.now c.kid-ty.result (c.kind_at-2.ensures c.args.self.now.symbol.now) (omega (arith, c.if-kind_at-ne-MEMBER_FUNCTION.false)))) ∙ sym (c.kind_at-2.ensures _) ∙ c.if-kind_at-ne-MEMBER_FUNCTION.false) c.kid-to.ensures.0) (writes-seq c.put_word.ensures (writes-seq c.front.ensures c.back.ensures))

pub class-name-requires : goal.class-name-requires
class-name-requires t c = (omega (arith, c.requires-raw), omega (arith, c.kid.ensures.1, c.requires.0))

pub class-returns : goal.class-returns
class-returns t c = writes-is (pre-class _ _ _ c.requires.0 c.kind.ensures c.kid.ensures.0 c.number.ensures (omega (arith, c.kind.ensures, c.requires)) (omega (arith, c.kind.ensures, c.requires))) (writes-seq c.put_class_name.ensures (writes-seq c.name.ensures c.put_storage_class.ensures))

pub destructor-returns-then-b-eq0 : goal.destructor-returns-then-b-eq0
unfolding word
destructor-returns-then-b-eq0 t c = rw (empty-none c.args.self.now.table.now c.args.self.now.symbol.now c.if-b-eq0.true) c.put_word.ensures

pub destructor-one-requires : goal.destructor-one-requires
destructor-one-requires t c = omega (arith, c.requires-raw, under c.first_entry.result c.args.b c.first_entry.ensures.1)

pub destructor-returns : goal.destructor-returns
destructor-returns t c = rw (not-empty c.args.self.now.table.now c.args.self.now.symbol.now {r = c.args.b} (omega (arith, c.if-b-eq0.false))) (writes-seq c.put.ensures (writes-is (first-is _ _ (c.first_entry.ensures.0 _)) c.one.ensures))

pub entry-returns-then-r-eq0 : goal.entry-returns-then-r-eq0
entry-returns-then-r-eq0 t c = writes-is (entry-none _ _ _ c.if-r-eq0.true) writes-none

pub entry-front-requires : goal.entry-front-requires
entry-front-requires t c = omega (arith, c.requires-raw, under c.kid-b.result c.args.r (omega (arith, c.kid-b.ensures.1, c.if-r-eq0.false)))

pub entry-back-requires : goal.entry-back-requires
entry-back-requires t c = omega (arith, c.requires-raw, under c.kid-b.result c.args.r (omega (arith, c.kid-b.ensures.1, c.if-r-eq0.false)))

pub entry-returns : goal.entry-returns
unfolding entry_after
entry-returns t c = writes-is (entry-is _ _ _ (omega arith) c.kid.ensures.0 c.kid-b.ensures.0) (writes-seq (writes-is (ap (λ e. when e (comma c.args.self.now.flags)) (sym (c.has_some.ensures _))) c.put_comma_if.ensures) (writes-seq c.front.ensures c.back.ensures))

pub front-returns-then-is_past : goal.front-returns-then-is_past
front-returns-then-is_past t c = elim c.then-is_past.branch [
  | front-then-is_past-via-then-is_past w ↦ writes-past w.if-is_past.ensures
  | front-then-is_past-via-else-is_past+then-r-eq0 w ↦ writes-is (pre-none _ _ _ w.if-r-eq0.true) writes-none
]

pub front-front-requires : goal.front-front-requires
front-front-requires t c = omega (arith, c.requires-raw, (under c.kid-a.result c.args.r (omega (arith, c.kid-a.ensures.1, c.if-r-eq0.false))))

pub front-member-requires : goal.front-member-requires
front-member-requires t c = (omega (arith, c.requires-raw), (omega arith, sym c.kind-k.ensures ∙ c.in-19.is))

pub front-front-requires-in-20 : goal.front-front-requires-in-20
front-front-requires-in-20 t c = omega (arith, c.requires-raw, (under c.kid-a.result c.args.r (omega (arith, c.kid-a.ensures.1, c.if-r-eq0.false))))

pub front-front-requires-in-31 : goal.front-front-requires-in-31
front-front-requires-in-31 t c = omega (arith, c.requires-raw, (under c.kid-a.result c.args.r (omega (arith, c.kid-a.ensures.1, c.if-r-eq0.false))))

pub front-front-requires-in-32 : goal.front-front-requires-in-32
front-front-requires-in-32 t c = omega (arith, c.requires-raw, (under c.kid-a.result c.args.r (omega (arith, c.kid-a.ensures.1, c.if-r-eq0.false))))

pub front-pointer-requires : goal.front-pointer-requires
front-pointer-requires t c = (omega (arith, c.requires-raw), (omega arith, omega (arith, c.kind-k.ensures, c.in-28-to-30.if-k-lt28-own.false), omega (arith, c.kind-k.ensures, c.in-28-to-30.if-k-lt31-own.true)))

pub front-class-requires : goal.front-class-requires
front-class-requires t c = (omega (arith, c.requires-raw), (omega arith, omega (arith, c.kind-k.ensures, c.in-33-to-37.if-k-lt31-own.false, c.in-33-to-37.in_default-own.rest), omega (arith, c.kind-k.ensures, c.in-33-to-37.if-k-lt38-own.true)))

pub front-returns-in-18 : goal.front-returns-in-18
unfolding write_pre content_of
front-returns-in-18 t c = writes-is (ap (write_pre _) (node_at _ _ (omega arith) (kind_number MemberFunction) c.kind-k.ensures c.in-18.is c.kid-a.ensures.0 refl refl refl c.number-in-18.ensures c.number.ensures refl)) (writes-seq c.put_func_class.ensures (writes-seq c.front.ensures c.put_calling_conv.ensures))

pub front-returns-in-19 : goal.front-returns-in-19
front-returns-in-19 t c = c.member.ensures

pub front-returns-in-20 : goal.front-returns-in-20
unfolding write_pre content_of
front-returns-in-20 t c = writes-is (ap (write_pre _) (node_at _ _ (omega arith) (kind_number NonMemberFunction) c.kind-k.ensures c.in-20.is c.kid-a.ensures.0 refl refl refl c.number-in-20.ensures refl refl)) (writes-seq c.front-in-20.ensures c.put_calling_conv-in-20.ensures)

pub front-returns-in-31 : goal.front-returns-in-31
unfolding write_pre content_of
front-returns-in-31 t c = writes-is (ap (write_pre _) (node_at _ _ (omega arith) (kind_number Array) c.kind-k.ensures c.in-31.is c.kid-a.ensures.0 refl refl c.number-in-31.ensures refl refl refl)) (writes-seq c.front-in-31.ensures c.put_storage_class.ensures)

pub front-returns-in-32 : goal.front-returns-in-32
unfolding write_pre content_of
front-returns-in-32 t c = writes-is (ap (write_pre _) (node_at _ _ (omega arith) (kind_number Var) c.kind-k.ensures c.in-32.is c.kid-a.ensures.0 refl refl c.number-in-32-2.ensures c.number-in-32.ensures refl refl)) (writes-seq c.put_var_kind.ensures (writes-seq c.front-in-32.ensures c.put_storage_class-in-32.ensures))

pub front-returns-in-28-to-30 : goal.front-returns-in-28-to-30
front-returns-in-28-to-30 t c = c.pointer.ensures

pub front-returns-in-33-to-37 : goal.front-returns-in-33-to-37
front-returns-in-33-to-37 t c = c.class.ensures

pub front-returns-in_default : goal.front-returns-in_default
front-returns-in_default t c = writes-is (pre-plain _ _ _ (omega arith) c.kind-k.ensures c.number-in_default.ensures c.number-in_default-2.ensures c.in_default-1.rest.0.0.0.0.1 c.in_default-1.rest.0.0.0.1 c.in_default-1.rest.0.0.1 c.in_default-1.rest.0.1 c.in_default-1.rest.1 (elim c.in_default.branch [ front-in_default-via-then-k-lt28 w ↦ inl (omega (arith, w.if-k-lt28-1.true)) | front-in_default-via-else-k-lt28+else-k-lt31+else-k-lt38 w ↦ inr (omega (arith, w.if-k-lt38-1.false)) ])) c.put_plain.ensures

pub function-types-requires : goal.function-types-requires
function-types-requires t c = omega (arith, c.requires-raw, under c.kid.result c.args.r (omega (arith, c.kid.ensures.1, c.requires.0)))

pub function-back-requires : goal.function-back-requires
function-back-requires t c = omega (arith, c.requires-raw, under c.kid-2.result c.args.r (omega (arith, c.kid-2.ensures.1, c.requires.0)))

pub function-returns : goal.function-returns
function-returns t c = writes-is (post-function _ _ _ c.requires.0 refl c.kid-2.ensures.0 c.kid.ensures.0 c.number.ensures c.requires.1) (writes-seq c.put.ensures (writes-seq c.types.ensures (writes-seq c.put-2.ensures (writes-seq c.put_memfn_qualifiers.ensures c.back.ensures))))

pub leading-returns-then-has : goal.leading-returns-then-has
leading-returns-then-has t c = elim c.then-has.branch [
  | leading-then-has-via-then-has w ↦ rw (sym c.has.ensures ∙ w.if-has.true) writes-none
  | leading-then-has-via-else-has+then-has-2 w ↦ rw (sym c.has.ensures ∙ w.if-has.false, sym w.has-else-has.ensures ∙ w.if-has-2.true) writes-none
]

pub leading-front-requires : goal.leading-front-requires
leading-front-requires t c = omega (arith, c.requires-raw)

pub leading-returns : goal.leading-returns
leading-returns t c = rw (sym c.has.ensures ∙ c.if-has.false, sym c.has-else-has.ensures ∙ c.if-has-2.false) c.front.ensures

pub member-front-requires : goal.member-front-requires
member-front-requires t c = omega (arith, c.requires-raw, under c.kid.result c.args.r (omega (arith, c.kid.ensures.1, c.requires.0)))

pub member-name-requires : goal.member-name-requires
member-name-requires t c = (omega (arith, c.requires-raw), omega (arith, c.kid-2.ensures.1, c.requires.0))

pub member-returns : goal.member-returns
unfolding write_pre content_of write_space asks_by word
member-returns t c = writes-is (ap (write_pre _) (node_at _ _ c.requires.0 (kind_number MemberFunctionPointer) refl c.requires.1 c.kid.ensures.0 refl c.kid-2.ensures.0 refl c.number.ensures refl refl)) (writes-seq c.front.ensures (writes-seq c.put_opening.ensures (writes-seq c.put_space.ensures (writes-seq c.put_space-2.ensures (writes-seq (writes-is (ap₂ (λ g k. write_name c.args.self.now.flags g k (tree_of c.args.self.now.table.now c.args.self.now.symbol.now c.kid-2.result)) (sym (guard-not _ refl (λ e. omega (arith, e, kind-cell c.args.self.now.table.now c.args.self.now.symbol.now c.args.r c.requires.0, c.requires)))) (sym (cast-not _ _ (λ e. omega (arith, e, kind-cell c.args.self.now.table.now c.args.self.now.symbol.now c.args.r c.requires.0, c.requires))))) c.name.ensures) c.put_word.ensures)))))

pub name-returns-then-is_past : goal.name-returns-then-is_past
name-returns-then-is_past t c = elim c.then-is_past.branch [
  | name-then-is_past-via-then-is_past w ↦ writes-past w.if-is_past.ensures
  | name-then-is_past-via-else-is_past+then-r-eq0 w ↦ writes-is (name-none _ _ _ w.if-r-eq0.true _ _) writes-none
]

pub name-scope-requires : goal.name-scope-requires
name-scope-requires t c = omega (arith, c.requires-raw, under c.kid-b.result c.args.up (omega (arith, c.kid-b.ensures.1, c.requires)))

pub name-own-requires : goal.name-own-requires
name-own-requires t c = (omega (arith, c.requires-raw), (omega (arith, c.kid-a.ensures.1, c.requires), omega (arith, c.kid-b.ensures.1, c.requires)))

pub name-returns : goal.name-returns
unfolding word write_space lit asks_by
name-returns t c = writes-is (name-is _ _ _ (omega arith) c.kid-a.ensures.0 c.kid-b.ensures.0 _ _) (writes-seq c.put_name_space.ensures (writes-seq (writes-is (ap (λ e. when e (write_space ⨾ lit (word 68))) (sym (c.is_literal-literal.ensures _))) c.put_apart_if.ensures) (writes-seq c.scope.ensures (writes-seq (writes-is (ap₂ (λ e l. unless (or e l) (put "::")) (empty-is _ _ _) (sym (c.is_literal-literal.ensures _))) c.put_colons.ensures) c.own.ensures))))

pub one-returns-then-is_past : goal.one-returns-then-is_past
one-returns-then-is_past t c = elim c.then-is_past.branch [
  | one-then-is_past-via-then-is_past w ↦ writes-past w.if-is_past.ensures
  | one-then-is_past-via-else-is_past+then-r-eq0 w ↦ writes-is (one_none _ _ _ w.if-r-eq0.true) writes-none
]

pub one-front-requires : goal.one-front-requires
one-front-requires t c = omega (arith, c.requires-raw, (under c.kid-a.result c.args.r (omega (arith, c.kid-a.ensures.1, c.if-r-eq0.false))))

pub one-one-requires : goal.one-one-requires
one-one-requires t c = omega (arith, c.requires-raw, (under c.kid-a.result c.args.r (omega (arith, c.kid-a.ensures.1, c.if-r-eq0.false))))

pub one-params-requires : goal.one-params-requires
one-params-requires t c = omega (arith, c.requires-raw, under c.kid.result c.args.r (omega (arith, c.kid.ensures.1, c.if-r-eq0.false)))

pub one-parsed-requires : goal.one-parsed-requires
one-parsed-requires t c = omega (arith, c.requires-raw, (under c.kid-a.result c.args.r (omega (arith, c.kid-a.ensures.1, c.if-r-eq0.false))))

pub one-returns-in-7 : goal.one-returns-in-7
unfolding write_one_name content_of
one-returns-in-7 t c = writes-is (ap (write_one_name _) (node_at _ _ (omega arith) (kind_number Operator) c.kind-k.ensures c.in-7.is refl refl refl c.number.ensures refl refl refl)) c.put_operator.ensures

pub one-returns-in-8 : goal.one-returns-in-8
unfolding write_one_name write_space asks_by word
one-returns-in-8 t c = writes-is (ap (write_one_name _) (node_at _ _ (omega arith) (kind_number RttiTypeDescriptor) c.kind-k.ensures c.in-8.is c.kid-a.ensures.0 refl refl refl refl refl refl)) (writes-seq c.put_space.ensures (writes-seq c.front.ensures c.put_word.ensures))

pub one-returns-in-9 : goal.one-returns-in-9
unfolding write_one_name content_of
one-returns-in-9 t c = writes-is (ap (write_one_name _) (node_at _ _ (omega arith) (kind_number RttiBaseClassDescriptor) c.kind-k.ensures c.in-9.is refl refl refl refl refl refl refl)) c.descriptor.ensures

pub one-returns-in-12 : goal.one-returns-in-12
unfolding write_one_name
one-returns-in-12 t c = writes-is (ap (write_one_name _) (node_at _ _ (omega arith) (kind_number Template) c.kind-k.ensures c.in-12.is c.kid-a.ensures.0 c.kid.ensures.0 refl refl refl refl refl)) (writes-seq c.one.ensures c.params.ensures)

pub one-returns-in-14 : goal.one-returns-in-14
unfolding write_one_name
one-returns-in-14 t c = writes-is (ap (write_one_name _) (node_at _ _ (omega arith) (kind_number ParsedName) c.kind-k.ensures c.in-14.is c.kid-a.ensures.0 refl refl refl refl refl refl)) (writes-seq c.put.ensures (writes-seq c.parsed.ensures c.put-in-14.ensures))

pub one-returns-in_default : goal.one-returns-in_default
one-returns-in_default t c = writes-is (one_plain _ _ _ (omega arith) c.kind-k.ensures c.number-in_default.ensures c.number-in_default-2.ensures c.in_default.in_default-own.rest.0.0.0.0.1 c.in_default.in_default-own.rest.0.0.0.1 c.in_default.in_default-own.rest.0.0.1 c.in_default.in_default-own.rest.0.1 c.in_default.in_default-own.rest.1) c.put_plain_name.ensures

pub own-returns-then-a-eq0 : goal.own-returns-then-a-eq0
own-returns-then-a-eq0 t c = writes-is (own-none c.args.self.now.flags _ _ c.if-a-eq0.true _ _ _ _ _ _) writes-none

pub own-own_operator-requires : goal.own-own_operator-requires
own-own_operator-requires t c = (omega (arith, c.requires-raw), c.requires.1)

pub own-parsed-requires : goal.own-parsed-requires
own-parsed-requires t c = omega (arith, c.requires-raw, under c.kid.result c.args.up (omega (arith, c.kid.ensures.1, c.requires)))

pub own-one-requires : goal.own-one-requires
own-one-requires t c = omega (arith, c.requires-raw, under c.args.a c.args.up c.requires.0)

pub own-returns-in-7 : goal.own-returns-in-7
own-returns-in-7 t c = writes-is (own-operator c.args.self.now.flags _ _ (omega arith) c.kind-k.ensures _ _ _ _ _ _ c.number.ensures c.in-7.is) c.own_operator.ensures

pub own-returns-in-14 : goal.own-returns-in-14
own-returns-in-14 t c = writes-is (own-parsed _ _ _ (omega arith) c.kind-k.ensures _ _ _ _ _ c.kid.ensures.0 c.in-14.is) c.parsed.ensures

pub own-returns-in-15-to-16 : goal.own-returns-in-15-to-16
own-returns-in-15-to-16 t c = writes-is (own-anonymous c.args.self.now.flags _ _ (omega arith) c.kind-k.ensures _ _ _ _ _ _ (omega (arith, c.in-15-to-16.if-k-lt14-own.false)) (omega (arith, c.in-15-to-16.if-k-lt17-own.true))) writes-none

pub own-returns-in_default : goal.own-returns-in_default
own-returns-in_default t c = writes-is (own-rest c.args.self.now.flags _ _ (omega arith) c.kind-k.ensures _ _ _ _ _ _ c.in_default-1.rest.0.1 c.in_default-1.rest.1 (elim c.in_default.branch [ own-in_default-via-then-k-lt14 w ↦ inl (omega (arith, w.if-k-lt14-1.true)) | own-in_default-via-else-k-lt14+else-k-lt17 w ↦ inr (omega (arith, w.if-k-lt17-1.false)) ])) c.one.ensures

pub own_operator-structor-requires : goal.own_operator-structor-requires
own_operator-structor-requires t c = omega (arith, c.requires-raw, under c.args.b c.args.up c.requires)

pub own_operator-destructor-requires : goal.own_operator-destructor-requires
own_operator-destructor-requires t c = omega (arith, c.requires-raw, under c.args.b c.args.up c.requires)

pub own_operator-cast-requires : goal.own_operator-cast-requires
own_operator-cast-requires t c = omega (arith, c.requires-raw)

pub own_operator-returns-in-0 : goal.own_operator-returns-in-0
unfolding write_own_operator word
own_operator-returns-in-0 t c = writes-is (ap (write_own_operator (guard_of (tree_of c.args.self.now.table.now c.args.self.now.symbol.now c.args.up)) (cast_of c.args.self.now.flags (tree_of c.args.self.now.table.now c.args.self.now.symbol.now c.args.up)) (is_empty (tree_of c.args.self.now.table.now c.args.self.now.symbol.now c.args.b)) (write_first c.args.self.now.flags (tree_of c.args.self.now.table.now c.args.self.now.symbol.now c.args.b))) c.in-0.is) c.structor.ensures

pub own_operator-returns-in-1 : goal.own_operator-returns-in-1
unfolding write_own_operator word
own_operator-returns-in-1 t c = writes-is (ap (write_own_operator (guard_of (tree_of c.args.self.now.table.now c.args.self.now.symbol.now c.args.up)) (cast_of c.args.self.now.flags (tree_of c.args.self.now.table.now c.args.self.now.symbol.now c.args.up)) (is_empty (tree_of c.args.self.now.table.now c.args.self.now.symbol.now c.args.b)) (write_first c.args.self.now.flags (tree_of c.args.self.now.table.now c.args.self.now.symbol.now c.args.b))) c.in-1.is) c.destructor.ensures

pub own_operator-returns-in-11 : goal.own_operator-returns-in-11
unfolding write_own_operator word
own_operator-returns-in-11 t c = writes-is (ap (write_own_operator (guard_of (tree_of c.args.self.now.table.now c.args.self.now.symbol.now c.args.up)) (cast_of c.args.self.now.flags (tree_of c.args.self.now.table.now c.args.self.now.symbol.now c.args.up)) (is_empty (tree_of c.args.self.now.table.now c.args.self.now.symbol.now c.args.b)) (write_first c.args.self.now.flags (tree_of c.args.self.now.table.now c.args.self.now.symbol.now c.args.b))) c.in-11.is) c.cast.ensures

pub own_operator-returns-in-44 : goal.own_operator-returns-in-44
unfolding write_own_operator word
own_operator-returns-in-44 t c = writes-is (ap (write_own_operator (guard_of (tree_of c.args.self.now.table.now c.args.self.now.symbol.now c.args.up)) (cast_of c.args.self.now.flags (tree_of c.args.self.now.table.now c.args.self.now.symbol.now c.args.up)) (is_empty (tree_of c.args.self.now.table.now c.args.self.now.symbol.now c.args.b)) (write_first c.args.self.now.flags (tree_of c.args.self.now.table.now c.args.self.now.symbol.now c.args.b))) c.in-44.is) c.put_word.ensures

pub own_operator-returns-in-68 : goal.own_operator-returns-in-68
unfolding write_own_operator word
own_operator-returns-in-68 t c = writes-is (ap (write_own_operator (guard_of (tree_of c.args.self.now.table.now c.args.self.now.symbol.now c.args.up)) (cast_of c.args.self.now.flags (tree_of c.args.self.now.table.now c.args.self.now.symbol.now c.args.up)) (is_empty (tree_of c.args.self.now.table.now c.args.self.now.symbol.now c.args.b)) (write_first c.args.self.now.flags (tree_of c.args.self.now.table.now c.args.self.now.symbol.now c.args.b))) c.in-68.is) writes-none

pub own_operator-returns-in_default : goal.own_operator-returns-in_default
own_operator-returns-in_default t c = writes-is (operator-rest (guard_of (tree_of c.args.self.now.table.now c.args.self.now.symbol.now c.args.up)) (cast_of c.args.self.now.flags (tree_of c.args.self.now.table.now c.args.self.now.symbol.now c.args.up)) (is_empty (tree_of c.args.self.now.table.now c.args.self.now.symbol.now c.args.b)) (write_first c.args.self.now.flags (tree_of c.args.self.now.table.now c.args.self.now.symbol.now c.args.b)) _ c.in_default.in_default-own.rest.0.0.0.0.1 c.in_default.in_default-own.rest.0.0.0.1 c.in_default.in_default-own.rest.0.0.1 c.in_default.in_default-own.rest.0.1 c.in_default.in_default-own.rest.1 ∙ ap (λ g. write_spaced_operator g c.args.op) (sym (c.guard_at.ensures _))) c.put_operator.ensures

pub params-returns-then-r-eq0 : goal.params-returns-then-r-eq0
params-returns-then-r-eq0 t c = writes-is (tmpl-none _ _ (empty-none _ _ c.if-r-eq0.true)) (writes-seq c.put.ensures (writes-seq writes-none c.put-then-r-eq0.ensures))

pub params-types-requires : goal.params-types-requires
params-types-requires t c = omega (arith, c.requires-raw)

pub params-returns : goal.params-returns
unfolding asks_by
params-returns t c = writes-is (tmpl-some _ _ (not-empty _ _ (omega (arith, c.if-r-eq0.false)))) (writes-seq c.put.ensures (writes-seq (writes-seq c.types.ensures c.put_space.ensures) c.put-2.ensures))

pub parsed-returns-then-is_past : goal.parsed-returns-then-is_past
parsed-returns-then-is_past t c = elim c.then-is_past.branch [
  | parsed-then-is_past-via-then-is_past w ↦ writes-past w.if-is_past.ensures
  | parsed-then-is_past-via-else-is_past+then-kind_at-ne-PARSE_RESULT w ↦ writes-is (serialize-not _ _ (λ e. w.if-kind_at-ne-PARSE_RESULT.true (w.kind_at.ensures _ ∙ e))) writes-none
]

pub parsed-overflow_sub-m : goal.parsed-overflow_sub-m
parsed-overflow_sub-m t c = (kind-low c.args.self.now.table.now c.args.self.now.symbol.now c.args.r (c.kind_at.ensures c.args.self.now.symbol.now) (omega (arith, c.if-kind_at-ne-PARSE_RESULT.false)))

pub parsed-leading-requires : goal.parsed-leading-requires
parsed-leading-requires t c = omega (arith, c.requires-raw, under c.kid-ty.result c.args.r (omega (arith, c.kid-ty.ensures.1, (kind-low c.args.self.now.table.now c.args.self.now.symbol.now c.args.r (c.kind_at.ensures c.args.self.now.symbol.now) (omega (arith, c.if-kind_at-ne-PARSE_RESULT.false))))))

pub parsed-name-requires : goal.parsed-name-requires
parsed-name-requires t c = (omega (arith, c.requires-raw), omega (arith, c.kid.ensures.1, (kind-low c.args.self.now.table.now c.args.self.now.symbol.now c.args.r (c.kind_at.ensures c.args.self.now.symbol.now) (omega (arith, c.if-kind_at-ne-PARSE_RESULT.false)))))

pub parsed-returns-else-not-has : goal.parsed-returns-else-not-has
parsed-returns-else-not-has t c = writes-is (serialize-is _ _ _ (kind-low c.args.self.now.table.now c.args.self.now.symbol.now c.args.r (c.kind_at.ensures c.args.self.now.symbol.now) (omega (arith, c.if-kind_at-ne-PARSE_RESULT.false))) (sym (kind-cell c.args.self.now.table.now c.args.self.now.symbol.now c.args.r (kind-low c.args.self.now.table.now c.args.self.now.symbol.now c.args.r (c.kind_at.ensures c.args.self.now.symbol.now) (omega (arith, c.if-kind_at-ne-PARSE_RESULT.false)))) ∙ sym (c.kind_at.ensures _) ∙ c.if-kind_at-ne-PARSE_RESULT.false) c.kid.ensures.0 c.kid-ty.ensures.0) (writes-seq c.leading.ensures (writes-seq c.name.ensures (unless-so _ _ (sym c.has.ensures ∙ c.if-not-has.false))))

pub parsed-back-requires : goal.parsed-back-requires
parsed-back-requires t c = omega (arith, c.requires-raw, under c.kid-ty.result c.args.r (omega (arith, c.kid-ty.ensures.1, (kind-low c.args.self.now.table.now c.args.self.now.symbol.now c.args.r (c.kind_at.ensures c.args.self.now.symbol.now) (omega (arith, c.if-kind_at-ne-PARSE_RESULT.false))))))

pub parsed-returns-then-not-has : goal.parsed-returns-then-not-has
parsed-returns-then-not-has t c = writes-is (serialize-is _ _ _ (kind-low c.args.self.now.table.now c.args.self.now.symbol.now c.args.r (c.kind_at.ensures c.args.self.now.symbol.now) (omega (arith, c.if-kind_at-ne-PARSE_RESULT.false))) (sym (kind-cell c.args.self.now.table.now c.args.self.now.symbol.now c.args.r (kind-low c.args.self.now.table.now c.args.self.now.symbol.now c.args.r (c.kind_at.ensures c.args.self.now.symbol.now) (omega (arith, c.if-kind_at-ne-PARSE_RESULT.false)))) ∙ sym (c.kind_at.ensures _) ∙ c.if-kind_at-ne-PARSE_RESULT.false) c.kid.ensures.0 c.kid-ty.ensures.0) (writes-seq c.leading.ensures (writes-seq c.name.ensures (unless_not _ _ (sym c.has.ensures ∙ c.if-not-has.true) c.back.ensures)))

pub pointee-returns-then-r-eq0 : goal.pointee-returns-then-r-eq0
pointee-returns-then-r-eq0 t c = writes-is (pointee-none _ _ _ c.if-r-eq0.true) writes-none

pub pointee-front-requires : goal.pointee-front-requires
pointee-front-requires t c = omega (arith, c.requires-raw, under c.kid.result c.args.r (omega (arith, c.kid.ensures.1, c.if-r-eq0.false)))

pub pointee-front-requires-in-20 : goal.pointee-front-requires-in-20
pointee-front-requires-in-20 t c = omega (arith, c.requires-raw, under c.kid-in-20.result c.args.r (omega (arith, c.kid-in-20.ensures.1, c.if-r-eq0.false)))

pub pointee-front-requires-in-31 : goal.pointee-front-requires-in-31
pointee-front-requires-in-31 t c = omega (arith, c.requires-raw)

pub pointee-front-requires-in_default : goal.pointee-front-requires-in_default
pointee-front-requires-in_default t c = omega (arith, c.requires-raw)

pub pointee-returns-in-18 : goal.pointee-returns-in-18
pointee-returns-in-18 t c = writes-is (pointee-member _ _ _ (omega arith) c.kind-k.ensures c.kid.ensures.0 c.number.ensures c.in-18.is) (writes-seq c.front.ensures c.put_opening.ensures)

pub pointee-returns-in-20 : goal.pointee-returns-in-20
pointee-returns-in-20 t c = writes-is (pointee-function _ _ _ (omega arith) c.kind-k.ensures c.kid-in-20.ensures.0 c.number-in-20.ensures c.in-20.is) (writes-seq c.front-in-20.ensures c.put_opening-in-20.ensures)

pub pointee-returns-in-31 : goal.pointee-returns-in-31
unfolding write_space asks_by
pointee-returns-in-31 t c = writes-is (pointee-array _ _ _ (omega arith) c.kind-k.ensures _ _ c.in-31.is) (writes-seq c.front-in-31.ensures (writes-seq c.put_space.ensures c.put.ensures))

pub pointee-returns-in_default : goal.pointee-returns-in_default
pointee-returns-in_default t c = writes-is (pointee-rest _ _ _ (omega arith) c.kind-k.ensures _ _ c.in_default.in_default-own.rest.0.0.1 c.in_default.in_default-own.rest.0.1 c.in_default.in_default-own.rest.1) c.front-in_default.ensures

pub pointer-pointee-requires : goal.pointer-pointee-requires
pointer-pointee-requires t c = omega (arith, c.requires-raw, under c.kid.result c.args.r (omega (arith, c.kid.ensures.1, c.requires.0)))

pub pointer-returns : goal.pointer-returns
pointer-returns t c = writes-is (pre-pointer _ _ _ c.requires.0 c.kind.ensures c.kid.ensures.0 c.number.ensures (omega (arith, c.kind.ensures, c.requires)) (omega (arith, c.kind.ensures, c.requires))) (writes-seq c.pointee.ensures (writes-seq c.put_hug.ensures (writes-seq c.put_mark.ensures c.put_storage_class.ensures)))

pub returned-types-requires : goal.returned-types-requires
returned-types-requires t c = omega (arith, c.requires-raw, under c.kid.result c.args.r (omega (arith, c.kid.ensures.1, c.requires.0)))

pub returned-back-requires : goal.returned-back-requires
returned-back-requires t c = omega (arith, c.requires-raw, under c.kid-2.result c.args.r (omega (arith, c.kid-2.ensures.1, c.requires.0)))

pub returned-returns : goal.returned-returns
unfolding write_post content_of word write_one_qual write_space asks_by
returned-returns t c = writes-is (ap (write_post _) (node_at _ _ c.requires.0 (kind_number MemberFunctionPointer) refl c.requires.1 c.kid-2.ensures.0 c.kid.ensures.0 refl c.number-quals.ensures refl refl refl)) (writes-seq c.put_word.ensures (writes-seq c.types.ensures (writes-seq c.put.ensures (writes-seq c.back.ensures (writes-when _ c.has.ensures c.put_apart_if.ensures)))))

pub run-returns-then-is_past : goal.run-returns-then-is_past
run-returns-then-is_past t c = elim c.then-is_past.branch [
  | run-then-is_past-via-then-is_past w ↦ writes-past w.if-is_past.ensures
  | run-then-is_past-via-else-is_past+then-r-eq0 w ↦ writes-is (ones_none _ _ _ w.if-r-eq0.true _) writes-none
  | run-then-is_past-via-else-is_past+else-r-eq0+then-n-eq0 w ↦ writes-is (ap (last_ones _ _) w.if-n-eq0.true ∙ ones-zero _ _) writes-none
]

pub run-entry-requires : goal.run-entry-requires
run-entry-requires t c = omega (arith, c.requires-raw, below c.skip_packs.result c.args.r c.skip_packs.ensures.1, c.if-n-eq1.true)

pub run-returns-then-n-eq1 : goal.run-returns-then-n-eq1
run-returns-then-n-eq1 t c = writes-is (ap (last_ones _ _) c.if-n-eq1.true ∙ ones-one _ _ ∙ ap (last_entry _) (sym (c.skip_packs.ensures.0 _))) c.entry.ensures

pub run-run-requires : goal.run-run-requires
run-run-requires t c = omega (arith, c.requires-raw, under c.without_last-p.result c.args.r (c.without_last-p.ensures.2 (omega (arith, c.if-n-eq0.false, c.if-n-eq1.false)) (omega (arith, c.if-r-eq0.false))))

pub run-run-requires-2 : goal.run-run-requires-2
run-run-requires-2 t c = omega (arith, c.requires-raw, c.if-n-eq0.false, c.if-n-eq1.false)

pub run-returns : goal.run-returns
run-returns t c = writes-is (ones_halves _ c.args.n (c.args.n / 2) _ _ (omega arith) (c.without_last-p.ensures.0 _)) (writes-seq c.run.ensures c.run-2.ensures)

pub scope-loop-p-init : goal.scope-loop-p-init
scope-loop-p-init t c = (search rules, refl, λ b' o' w. w)

pub scope-one-requires : goal.scope-one-requires
scope-one-requires t c = omega (arith, c.requires-raw, under c.kid.result c.args.r (omega (arith, c.kid.ensures.1, c.loop-p.invariant.0)))

pub scope-loop-p-preserved : goal.scope-loop-p-preserved
scope-loop-p-preserved t c = (omega (arith, c.kid-p.ensures.1, c.loop-p.invariant.0), c.put_colons.ensures.1 ∙ c.one.ensures.1 ∙ c.loop-p.invariant.1, λ b' o' w. c.loop-p.invariant.2 b' o' (wrote-is (scope-is _ _ _ c.loop-p-test.true c.kid-p.ensures.0 c.kid.ensures.0) (wrote-seq c.one.ensures.0 (wrote-seq (wrote-is (ap (λ e. unless e (put "::")) (empty-is _ _ _ ∙ sym (or-false _))) c.put_colons.ensures.0) w))))

pub scope-returns : goal.scope-returns
scope-returns t c = (c.loop-p.invariant.2 _ _ (wrote-is (scope-none _ _ _ (omega (arith, c.loop-p-test.false))) (wrote_none _ _)), c.loop-p.invariant.1)

pub scope-returns-then-is_past : goal.scope-returns-then-is_past
scope-returns-then-is_past t c = (c.loop-p.invariant.2 _ _ (wrote-past _ c.if-is_past.ensures), c.loop-p.invariant.1)

pub structor-returns-then-b-eq0 : goal.structor-returns-then-b-eq0
unfolding word
structor-returns-then-b-eq0 t c = rw (empty-none c.args.self.now.table.now c.args.self.now.symbol.now c.if-b-eq0.true) c.put_word.ensures

pub structor-one-requires : goal.structor-one-requires
structor-one-requires t c = omega (arith, c.requires-raw, under c.first_entry.result c.args.b c.first_entry.ensures.1)

pub structor-returns : goal.structor-returns
structor-returns t c = rw (not-empty c.args.self.now.table.now c.args.self.now.symbol.now {r = c.args.b} (omega (arith, c.if-b-eq0.false))) (writes-is (first-is _ _ (c.first_entry.ensures.0 _)) c.one.ensures)

pub types-returns-then-is_past : goal.types-returns-then-is_past
types-returns-then-is_past t c = writes-past c.if-is_past.ensures

pub types-run-requires : goal.types-run-requires
types-run-requires t c = omega (arith, c.requires-raw, c.count_some.ensures.1)

pub types-returns : goal.types-returns
types-returns t c = writes-is (types-count _ _ _ (c.count_some.ensures.0 _)) c.run.ensures

pub vftable-returns-then-r-eq0 : goal.vftable-returns-then-r-eq0
vftable-returns-then-r-eq0 t c = unless-so _ _ (empty-none _ _ c.if-r-eq0.true)

pub vftable-scope-requires : goal.vftable-scope-requires
vftable-scope-requires t c = omega (arith, c.requires-raw)

pub vftable-returns : goal.vftable-returns
unfolding word
vftable-returns t c = unless_not _ _ (not-empty _ _ (omega arith)) (writes-seq c.put_word.ensures (writes-seq c.scope.ensures c.put_word-2.ensures))
