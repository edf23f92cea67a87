-- The readers call each other: each does what its production says.
-- Assumes nothing.
use Prim.Native.Nat.{◌+◌, ◌-◌, ◌<◌, ◌≤◌}
use mathlib.Core.Path.{◌≡◌, ◌∙◌, refl, sym, ap}
use mathlib.Core.List.{[], ◌∷◌}
use mathlib.Core.Bool.{Bool}
use native.Mathlib.Omega.{arith}
use Rattle.std.specs.Prelude.{Ok}
use Rattle.grammar.specs.Words.{name_of}
use Rattle.grammar.specs.Grammar.{array, body, Dimension, Func, dimensions, element, NoParams, func_params, member_function_pointer, name_body, stored_param, new_param, parse_of, GuardType, pointee, NoReturn, func_return_type, template_name, stored}
use Rattle.steps.proofs.Laws.{handed, does-ret, does-sub, sub-refused, does-part, does-finds, does-keeps, does-value, value-bad, values-expect, on-there, on-absent, on-digit, no_digit, on-reference, no-reference, reads-deep, reads-body, closes}
use Rattle.steps.proofs.More.{does-as, does-leads, leads-refused, does-here, does-memo, does-set, does-inner, does-given, does-chosen, does-other, does-refuse, does-pass, nested-last, nested-more}
use Rattle.ends.proofs.Parts.{reads-opens}
use Rattle.ends.proofs.Lists.{params-starts, params-ends, params-goes, params-out, scope-starts, scope_ends, scope-goes, scope-out}
use Rattle.shapes.specs.Shapes.{returned}
use Rattle.cycle.proofs.+readers.Goals as goal

pub vtype-returns-in-Some : goal.vtype-returns-in-Some
vtype-returns-in-Some t c = on-reference c.args.sc c.reference.ensures c.in-Some.is (does-finds c.type_of.ensures)

pub vtype-returns-in-None : goal.vtype-returns-in-None
vtype-returns-in-None t c = no-reference c.args.sc c.reference.ensures c.in-None.is (does-part c.ty.ensures)

pub ty-returns-in_err-left : goal.ty-returns-in_err-left
ty-returns-in_err-left t c = reads-deep c.open.ensures c.in_err-left.was (handed c.from_residual.ensures)

pub ty-returns-in_err-shape : goal.ty-returns-in_err-shape
unfolding body
ty-returns-in_err-shape t c = reads-body c.open.ensures c.in_ok-left.was (leads-refused c.type_shape.ensures c.in_err-shape.was (handed c.from_residual-in_err-shape.ensures))

pub ty-returns-in-Named : goal.ty-returns-in-Named
unfolding body
ty-returns-in-Named t c = reads-body c.open.ensures c.in_ok-left.was (does-leads c.type_shape.ensures (c.in_ok-shape.was ∙ ap Ok c.in-Named.is) c.named.ensures)

pub ty-returns-in-Pointing : goal.ty-returns-in-Pointing
unfolding body
ty-returns-in-Pointing t c = reads-body c.open.ensures c.in_ok-left.was (does-leads c.type_shape.ensures (c.in_ok-shape.was ∙ ap Ok c.in-Pointing.is) c.point.ensures)

pub ty-returns-in-ToFunction : goal.ty-returns-in-ToFunction
unfolding body
ty-returns-in-ToFunction t c = reads-body c.open.ensures c.in_ok-left.was (does-leads c.type_shape.ensures (c.in_ok-shape.was ∙ ap Ok c.in-ToFunction.is) c.tofn.ensures)

pub ty-returns-in-Member : goal.ty-returns-in-Member
unfolding body
ty-returns-in-Member t c = reads-body c.open.ensures c.in_ok-left.was (does-leads c.type_shape.ensures (c.in_ok-shape.was ∙ ap Ok c.in-Member.is) c.mptr.ensures)

pub ty-returns-in-Function : goal.ty-returns-in-Function
unfolding body
ty-returns-in-Function t c = reads-body c.open.ensures c.in_ok-left.was (does-leads c.type_shape.ensures (c.in_ok-shape.was ∙ ap Ok c.in-Function.is) c.func.ensures)

pub ty-returns-in-Array : goal.ty-returns-in-Array
unfolding body
ty-returns-in-Array t c = reads-body c.open.ensures c.in_ok-left.was (does-leads c.type_shape.ensures (c.in_ok-shape.was ∙ ap Ok c.in-Array.is) c.array.ensures)

pub ty-returns-in-Leaf : goal.ty-returns-in-Leaf
unfolding body
ty-returns-in-Leaf t c = reads-body c.open.ensures c.in_ok-left.was (does-leads c.type_shape.ensures (c.in_ok-shape.was ∙ ap Ok c.in-Leaf.is) (closes c.shut_leaf.ensures refl refl))

pub named-returns-in_err-n : goal.named-returns-in_err-n
named-returns-in_err-n t c = does-inner (sub-refused (does-part c.name.ensures) c.in_err-n.was (handed c.from_residual.ensures))

pub named-returns : goal.named-returns
named-returns t c = does-inner (does-sub (does-part c.name.ensures) c.in_ok-n.was (does-given (closes c.above.ensures refl refl)))

pub point-returns-in_err-n : goal.point-returns-in_err-n
unfolding pointee
point-returns-in_err-n t c = does-inner (does-value c.pointee_class-sc.ensures refl (sub-refused c.vtype.ensures c.in_err-n.was (handed c.from_residual.ensures)))

pub point-returns : goal.point-returns
unfolding pointee
point-returns t c = does-inner (does-value c.pointee_class-sc.ensures refl (does-sub c.vtype.ensures c.in_ok-n.was (closes c.above.ensures refl refl)))

pub tofn-returns-in_err-left : goal.tofn-returns-in_err-left
tofn-returns-in_err-left t c = sub-refused (does-part {tag = Func} (reads-deep c.open.ensures c.in_err-left.was refl)) refl (handed c.from_residual.ensures)

pub tofn-returns-in_err-n : goal.tofn-returns-in_err-n
unfolding body
tofn-returns-in_err-n t c = sub-refused (does-part {tag = Func} (reads-body c.open.ensures c.in_ok-left.was c.func.ensures)) c.in_err-n.was (handed c.from_residual-in_err-n.ensures)

pub tofn-returns : goal.tofn-returns
unfolding body
tofn-returns t c = does-sub (does-part {tag = Func} (reads-body c.open.ensures c.in_ok-left.was c.func.ensures)) c.in_ok-n.was (closes c.above.ensures refl refl)

pub func-returns-in_err-x : goal.func-returns-in_err-x
func-returns-in_err-x t c = leads-refused c.function_head.ensures c.in_err-x.was (handed c.from_residual.ensures)

pub func-returns : goal.func-returns
func-returns t c = does-leads c.function_head.ensures c.in_ok-x.was c.tail.ensures

pub mptr-returns-in_err-n : goal.mptr-returns-in_err-n
unfolding member_function_pointer
mptr-returns-in_err-n t c = does-inner (sub-refused (does-part c.name.ensures) c.in_err-n.was (handed c.from_residual.ensures))

pub mptr-returns-in_err-x : goal.mptr-returns-in_err-x
unfolding member_function_pointer
mptr-returns-in_err-x t c = does-inner (does-sub (does-part c.name.ensures) c.in_ok-n.was (does-given (leads-refused c.pointer_head.ensures c.in_err-x.was (handed c.from_residual-in_err-x.ensures))))

pub mptr-returns : goal.mptr-returns
unfolding member_function_pointer
mptr-returns t c = does-inner (does-sub (does-part c.name.ensures) c.in_ok-n.was (does-given (does-leads c.pointer_head.ensures c.in_ok-x.was c.tail.ensures)))

pub tail-returns-in_err-n : goal.tail-returns-in_err-n
tail-returns-in_err-n t c = sub-refused c.rett.ensures c.in_err-n.was (handed c.from_residual.ensures)

pub tail-returns-in_err-l : goal.tail-returns-in_err-l
tail-returns-in_err-l t c = does-sub c.rett.ensures c.in_ok-n.was (sub-refused c.fparams.ensures c.in_err-l.was (handed c.from_residual-in_err-l.ensures))

pub tail-returns : goal.tail-returns
tail-returns t c = does-sub c.rett.ensures c.in_ok-n.was (does-sub c.fparams.ensures c.in_ok-l.was (closes c.shut.ensures.shuts (rw (c.to.ensures, c.from.ensures)) refl))

pub rett-returns-then-structor : goal.rett-returns-then-structor
rett-returns-then-structor t c = does-as (ap (λ (b : Bool). returned b c.args.sc) c.if-structor.true) c.strt.ensures

pub rett-returns : goal.rett-returns
rett-returns t c = does-as (ap (λ (b : Bool). returned b c.args.sc) c.if-structor.false) c.vtype.ensures

pub strt-returns-then-consume : goal.strt-returns-then-consume
unfolding func_return_type body
strt-returns-then-consume t c = on-there "@" (sym c.consume.ensures ∙ c.if-consume.true) (does-part (reads-opens NoReturn (c.literal_part.ensures [] refl)))

pub strt-returns : goal.strt-returns
unfolding func_return_type
strt-returns t c = on-absent "@" (sym c.consume.ensures ∙ c.if-consume.false) c.vtype.ensures

pub array-returns-in_err-n : goal.array-returns-in_err-n
unfolding array
array-returns-in_err-n t c = value-bad c.number.ensures c.in_err-n.was (handed c.from_residual.ensures)

pub array-returns-then-is_no_dimension : goal.array-returns-then-is_no_dimension
unfolding array
array-returns-then-is_no_dimension t c = does-value c.number.ensures c.in_ok-n.was (does-refuse (sym c.is_no_dimension.ensures ∙ c.if-is_no_dimension.true))

pub array-returns-in_err-a : goal.array-returns-in_err-a
unfolding array
array-returns-in_err-a t c = does-value c.number.ensures c.in_ok-n.was (does-pass (sym c.is_no_dimension.ensures ∙ c.if-is_no_dimension.false) (sub-refused c.dims.ensures c.in_err-a.was (handed c.from_residual-in_err-a.ensures)))

pub array-returns : goal.array-returns
unfolding array
array-returns t c = does-value c.number.ensures c.in_ok-n.was (does-pass (sym c.is_no_dimension.ensures ∙ c.if-is_no_dimension.false) (does-sub c.dims.ensures c.in_ok-a.was does-ret))

pub dims-returns-in_err-len : goal.dims-returns-in_err-len
unfolding dimensions
dims-returns-in_err-len t c = value-bad c.number.ensures c.in_err-len.was (handed c.from_residual.ensures)

pub dims-returns-in_err-inner : goal.dims-returns-in_err-inner
unfolding dimensions
dims-returns-in_err-inner t c = does-value c.number.ensures c.in_ok-len.was (sub-refused (does-as (nested-last c.args.dimension c.if-dimension-le1.true) c.elem.ensures) c.in_err-inner.was (handed c.from_residual-in_err-inner.ensures))

pub dims-returns-then-dimension-le1 : goal.dims-returns-then-dimension-le1
unfolding dimensions
dims-returns-then-dimension-le1 t c = does-value c.number.ensures c.in_ok-len.was (does-sub (does-as (nested-last c.args.dimension c.if-dimension-le1.true) c.elem.ensures) c.in_ok-inner.was (c.array_end.ensures _))

pub dims-returns-in_err-left : goal.dims-returns-in_err-left
unfolding dimensions
dims-returns-in_err-left t c = does-value c.number.ensures c.in_ok-len.was (sub-refused (does-as (nested-more c.args.dimension c.if-dimension-le1.false) (does-part {tag = Dimension (c.args.dimension - 1)} (reads-deep c.open.ensures c.in_err-left.was refl))) refl (handed c.from_residual-in_err-left.ensures))

pub dims-returns-in_err-inner-2 : goal.dims-returns-in_err-inner-2
unfolding dimensions body
dims-returns-in_err-inner-2 t c = does-value c.number.ensures c.in_ok-len.was (sub-refused (does-as (nested-more c.args.dimension c.if-dimension-le1.false) (does-part {tag = Dimension (c.args.dimension - 1)} (reads-body c.open.ensures c.in_ok-left.was c.dims.ensures))) c.in_err-inner-2.was (handed c.from_residual-in_err-inner-2.ensures))

pub dims-returns : goal.dims-returns
unfolding dimensions body
dims-returns t c = does-value c.number.ensures c.in_ok-len.was (does-sub (does-as (nested-more c.args.dimension c.if-dimension-le1.false) (does-part {tag = Dimension (c.args.dimension - 1)} (reads-body c.open.ensures c.in_ok-left.was c.dims.ensures))) c.in_ok-inner-2.was (c.array_end-2.ensures _))

pub elem-returns-in_err-class : goal.elem-returns-in_err-class
unfolding element
elem-returns-in_err-class t c = value-bad c.element_class.ensures c.in_err-class.was (handed c.from_residual.ensures)

pub elem-returns-in_err-n : goal.elem-returns-in_err-n
unfolding element
elem-returns-in_err-n t c = does-value c.element_class.ensures c.in_ok-class.was (sub-refused c.vtype.ensures c.in_err-n.was (handed c.from_residual-in_err-n.ensures))

pub elem-returns : goal.elem-returns
unfolding element
elem-returns t c = does-value c.element_class.ensures c.in_ok-class.was (does-sub c.vtype.ensures c.in_ok-n.was does-ret)

pub fparams-returns-in_err-l : goal.fparams-returns-in_err-l
unfolding func_params
fparams-returns-in_err-l t c = sub-refused c.plist.ensures c.in_err-l.was (handed c.from_residual.ensures)

pub fparams-returns-in_err-expect : goal.fparams-returns-in_err-expect
unfolding func_params
fparams-returns-in_err-expect t c = does-sub c.plist.ensures c.in_ok-l.was (value-bad (values-expect "Z" c.expect.ensures) c.in_err-expect.was (handed c.from_residual-in_err-expect.ensures))

pub fparams-returns : goal.fparams-returns
unfolding func_params
fparams-returns t c = does-sub c.plist.ensures c.in_ok-l.was (does-value (values-expect "Z" c.expect.ensures) c.in_ok-expect.was does-ret)

pub plist-returns-in_err-n : goal.plist-returns-in_err-n
unfolding body
plist-returns-in_err-n t c = on-there "X" (sym c.consume.ensures ∙ c.if-consume.true) (sub-refused (does-part (reads-opens NoParams (c.literal_part.ensures (0 ∷ []) refl))) c.in_err-n.was (handed c.from_residual.ensures))

pub plist-returns-then-consume : goal.plist-returns-then-consume
unfolding body
plist-returns-then-consume t c = on-there "X" (sym c.consume.ensures ∙ c.if-consume.true) (does-sub (does-part (reads-opens NoParams (c.literal_part.ensures (0 ∷ []) refl))) c.in_ok-n.was (c.place.ensures _))

pub plist-returns : goal.plist-returns
plist-returns t c = on-absent "X" (sym c.consume.ensures ∙ c.if-consume.false) c.params.ensures

pub param-returns-in_err-n-in-Some : goal.param-returns-in_err-n-in-Some
unfolding stored_param
param-returns-in_err-n-in-Some t c = on-digit (stored_param c.args.last) c.digit.ensures c.in-Some.is (sub-refused (does-finds c.type_of.ensures) c.in_err-n-in-Some.was (handed c.from_residual.ensures))

pub param-returns-in_ok-n-in-Some : goal.param-returns-in_ok-n-in-Some
unfolding stored_param
param-returns-in_ok-n-in-Some t c = on-digit (stored_param c.args.last) c.digit.ensures c.in-Some.is (does-sub (does-finds c.type_of.ensures) c.in_ok-n-in-Some.was (c.place.ensures _))

pub param-returns-in_err-n-in-None : goal.param-returns-in_err-n-in-None
unfolding new_param
param-returns-in_err-n-in-None t c = no_digit (stored_param c.args.last) c.digit.ensures c.in-None.is (does-here (sub-refused c.vtype.ensures c.in_err-n-in-None.was (handed c.from_residual-in_err-n-in-None.ensures)))

pub param-returns-in_ok-n-in-None : goal.param-returns-in_ok-n-in-None
unfolding new_param
param-returns-in_ok-n-in-None t c = no_digit (stored_param c.args.last) c.digit.ensures c.in-None.is (does-here (does-sub c.vtype.ensures c.in_ok-n-in-None.was (c.param_end.ensures _)))

pub sname-returns-in_err-n : goal.sname-returns-in_err-n
sname-returns-in_err-n t c = sub-refused c.nname.ensures c.in_err-n.was (handed c.from_residual.ensures)

pub sname-returns : goal.sname-returns
sname-returns t c = does-sub c.nname.ensures c.in_ok-n.was (c.place.ensures _)

pub tmpl-returns-in_err-n : goal.tmpl-returns-in_err-n
unfolding template_name
tmpl-returns-in_err-n t c = does-memo (does-set c.aside-outer.ensures.state (sub-refused c.unqn.ensures c.in_err-n.was (handed c.from_residual.ensures)))

pub tmpl-returns-in_err-l : goal.tmpl-returns-in_err-l
unfolding template_name
tmpl-returns-in_err-l t c = does-memo (does-set c.aside-outer.ensures.state (does-sub c.unqn.ensures c.in_ok-n.was (sub-refused c.params.ensures c.in_err-l.was (handed c.from_residual-in_err-l.ensures))))

pub tmpl-returns : goal.tmpl-returns
unfolding template_name
tmpl-returns t c = does-memo (does-set c.aside-outer.ensures.state (does-sub c.unqn.ensures c.in_ok-n.was (does-sub c.params.ensures c.in_ok-l.was (does-set (rw c.aside-outer.ensures.value at c.put_back.ensures) (closes c.shut.ensures.shuts (rw (c.to-a.ensures, c.from-b.ensures)) refl)))))

pub name-returns-in_err-left : goal.name-returns-in_err-left
name-returns-in_err-left t c = reads-deep c.open.ensures c.in_err-left.was (handed c.from_residual.ensures)

pub name-returns-in_err-n : goal.name-returns-in_err-n
unfolding body name_body
name-returns-in_err-n t c = reads-body c.open.ensures c.in_ok-left.was (sub-refused c.unqn.ensures c.in_err-n.was (handed c.from_residual-in_err-n.ensures))

pub name-returns-in_err-l : goal.name-returns-in_err-l
unfolding body name_body
name-returns-in_err-l t c = reads-body c.open.ensures c.in_ok-left.was (does-sub c.unqn.ensures c.in_ok-n.was (sub-refused c.scope.ensures c.in_err-l.was (handed c.from_residual-in_err-l.ensures)))

pub name-returns-in_err-s : goal.name-returns-in_err-s
unfolding body name_body
name-returns-in_err-s t c = reads-body c.open.ensures c.in_ok-left.was (does-sub c.unqn.ensures c.in_ok-n.was (does-sub c.scope.ensures c.in_ok-l.was (sub-refused (closes c.shut.ensures.shuts (rw (c.to-a.ensures, c.from-b.ensures)) refl) c.in_err-s.was (handed c.from_residual-in_err-s.ensures))))

pub name-returns : goal.name-returns
unfolding body name_body
name-returns t c = reads-body c.open.ensures c.in_ok-left.was (does-sub c.unqn.ensures c.in_ok-n.was (does-sub c.scope.ensures c.in_ok-l.was (does-sub (closes c.shut.ensures.shuts (rw (c.to-a.ensures, c.from-b.ensures)) refl) c.in_ok-s.was does-ret)))

pub unqn-returns-in_err-n-in-Some : goal.unqn-returns-in_err-n-in-Some
unqn-returns-in_err-n-in-Some t c = on-digit stored c.digit.ensures c.in-Some.is (sub-refused (does-finds c.name_of.ensures) c.in_err-n-in-Some.was (handed c.from_residual.ensures))

pub unqn-returns-in_ok-n-in-Some : goal.unqn-returns-in_ok-n-in-Some
unqn-returns-in_ok-n-in-Some t c = on-digit stored c.digit.ensures c.in-Some.is (does-sub (does-finds c.name_of.ensures) c.in_ok-n-in-Some.was does-ret)

pub unqn-returns-in-None : goal.unqn-returns-in-None
unqn-returns-in-None t c = no_digit stored c.digit.ensures c.in-None.is (does-part c.unq.ensures)

pub unq-returns-in_err-left : goal.unq-returns-in_err-left
unq-returns-in_err-left t c = reads-deep c.open.ensures c.in_err-left.was (handed c.from_residual.ensures)

pub unq-returns-in_err-shape : goal.unq-returns-in_err-shape
unfolding body
unq-returns-in_err-shape t c = reads-body c.open.ensures c.in_ok-left.was (leads-refused (c.unqualified_shape.ensures c.args.function) c.in_err-shape.was (handed c.from_residual-in_err-shape.ensures))

pub unq-returns-in_err-n-in-Template : goal.unq-returns-in_err-n-in-Template
unfolding body
unq-returns-in_err-n-in-Template t c = reads-body c.open.ensures c.in_ok-left.was (does-leads (c.unqualified_shape.ensures c.args.function) (c.in_ok-shape.was ∙ ap Ok c.in-Template.is) (sub-refused c.tmpl.ensures c.in_err-n-in-Template.was (handed c.from_residual-in_err-n-in-Template.ensures)))

pub unq-returns-then-not-function : goal.unq-returns-then-not-function
unfolding body
unq-returns-then-not-function t c = reads-body c.open.ensures c.in_ok-left.was (does-leads (c.unqualified_shape.ensures c.args.function) (c.in_ok-shape.was ∙ ap Ok c.in-Template.is) (does-sub c.tmpl.ensures c.in_ok-n-in-Template.was (does-other c.if-not-function.true (does-keeps c.memorize_name.ensures does-ret))))

pub unq-returns-else-not-function : goal.unq-returns-else-not-function
unfolding body
unq-returns-else-not-function t c = reads-body c.open.ensures c.in_ok-left.was (does-leads (c.unqualified_shape.ensures c.args.function) (c.in_ok-shape.was ∙ ap Ok c.in-Template.is) (does-sub c.tmpl.ensures c.in_ok-n-in-Template.was (does-chosen c.if-not-function.false (does-given does-ret))))

pub unq-returns-in-Special : goal.unq-returns-in-Special
unfolding body
unq-returns-in-Special t c = reads-body c.open.ensures c.in_ok-left.was (does-leads (c.unqualified_shape.ensures c.args.function) (c.in_ok-shape.was ∙ ap Ok c.in-Special.is) (c.special.ensures))

pub unq-returns-in_err-n-in-Plain : goal.unq-returns-in_err-n-in-Plain
unfolding body
unq-returns-in_err-n-in-Plain t c = reads-body c.open.ensures c.in_ok-left.was (does-leads (c.unqualified_shape.ensures c.args.function) (c.in_ok-shape.was ∙ ap Ok c.in-Plain.is) (sub-refused (c.leaf_name.ensures _) c.in_err-n-in-Plain.was (handed c.from_residual-in_err-n-in-Plain.ensures)))

pub unq-returns-in_ok-n-in-Plain : goal.unq-returns-in_ok-n-in-Plain
unfolding body
unq-returns-in_ok-n-in-Plain t c = reads-body c.open.ensures c.in_ok-left.was (does-leads (c.unqualified_shape.ensures c.args.function) (c.in_ok-shape.was ∙ ap Ok c.in-Plain.is) (does-sub (c.leaf_name.ensures _) c.in_ok-n-in-Plain.was does-ret))

pub special-returns-in_err-shape : goal.special-returns-in_err-shape
special-returns-in_err-shape t c = leads-refused c.special_shape.ensures c.in_err-shape.was (handed c.from_residual.ensures)

pub special-returns-in_err-n-in-Operator : goal.special-returns-in_err-n-in-Operator
special-returns-in_err-n-in-Operator t c = does-leads c.special_shape.ensures (c.in_ok-shape.was ∙ ap Ok c.in-Operator.is) (sub-refused (closes c.shut_leaf.ensures refl refl) c.in_err-n-in-Operator.was (handed c.from_residual-in_err-n-in-Operator.ensures))

pub special-returns-in_ok-n-in-Operator : goal.special-returns-in_ok-n-in-Operator
special-returns-in_ok-n-in-Operator t c = does-leads c.special_shape.ensures (c.in_ok-shape.was ∙ ap Ok c.in-Operator.is) (does-sub (closes c.shut_leaf.ensures refl refl) c.in_ok-n-in-Operator.was (rw c.is_guard.ensures does-ret))

pub special-returns-in_err-n-in-Type : goal.special-returns-in_err-n-in-Type
special-returns-in_err-n-in-Type t c = does-leads c.special_shape.ensures (c.in_ok-shape.was ∙ ap Ok c.in-Type.is) (does-inner (sub-refused c.vtype.ensures c.in_err-n-in-Type.was (handed c.from_residual-in_err-n-in-Type.ensures)))

pub special-returns-in_err-d-in-Type : goal.special-returns-in_err-d-in-Type
special-returns-in_err-d-in-Type t c = does-leads c.special_shape.ensures (c.in_ok-shape.was ∙ ap Ok c.in-Type.is) (does-inner (does-sub c.vtype.ensures c.in_ok-n-in-Type.was (sub-refused (closes c.above.ensures refl refl) c.in_err-d-in-Type.was (handed c.from_residual-in_err-d-in-Type.ensures))))

pub special-returns-in_ok-d-in-Type : goal.special-returns-in_ok-d-in-Type
special-returns-in_ok-d-in-Type t c = does-leads c.special_shape.ensures (c.in_ok-shape.was ∙ ap Ok c.in-Type.is) (does-inner (does-sub c.vtype.ensures c.in_ok-n-in-Type.was (does-sub (closes c.above.ensures refl refl) c.in_ok-d-in-Type.was does-ret)))

pub special-returns-in_err-n-in-Base : goal.special-returns-in_err-n-in-Base
special-returns-in_err-n-in-Base t c = does-leads c.special_shape.ensures (c.in_ok-shape.was ∙ ap Ok c.in-Base.is) (sub-refused (closes c.shut.ensures.shuts refl refl) c.in_err-n-in-Base.was (handed c.from_residual-in_err-n-in-Base.ensures))

pub special-returns-in_ok-n-in-Base : goal.special-returns-in_ok-n-in-Base
special-returns-in_ok-n-in-Base t c = does-leads c.special_shape.ensures (c.in_ok-shape.was ∙ ap Ok c.in-Base.is) (does-sub (closes c.shut.ensures.shuts refl refl) c.in_ok-n-in-Base.was does-ret)

pub nname-returns-in-Some : goal.nname-returns-in-Some
nname-returns-in-Some t c = on-digit name_of c.digit.ensures c.in-Some.is (does-finds c.name_of.ensures)

pub nname-returns-in-None : goal.nname-returns-in-None
nname-returns-in-None t c = no_digit name_of c.digit.ensures c.in-None.is (does-part c.nested.ensures)

pub nested-returns-in_err-left : goal.nested-returns-in_err-left
nested-returns-in_err-left t c = reads-deep c.open.ensures c.in_err-left.was (handed c.from_residual.ensures)

pub nested-returns-in_err-shape : goal.nested-returns-in_err-shape
unfolding body
nested-returns-in_err-shape t c = reads-body c.open.ensures c.in_ok-left.was (leads-refused c.name_shape.ensures c.in_err-shape.was (handed c.from_residual-in_err-shape.ensures))

pub nested-returns-in-Stored : goal.nested-returns-in-Stored
unfolding body
nested-returns-in-Stored t c = reads-body c.open.ensures c.in_ok-left.was (does-leads c.name_shape.ensures (c.in_ok-shape.was ∙ ap Ok c.in-Stored.is) (does-finds c.name_of.ensures))

pub nested-returns-in_err-n-in-Parsed : goal.nested-returns-in_err-n-in-Parsed
unfolding body
nested-returns-in_err-n-in-Parsed t c = reads-body c.open.ensures c.in_ok-left.was (does-leads c.name_shape.ensures (c.in_ok-shape.was ∙ ap Ok c.in-Parsed.is) (sub-refused (does-part c.parse.ensures) c.in_err-n-in-Parsed.was (handed c.from_residual-in_err-n-in-Parsed.ensures)))

pub nested-returns-in_ok-n-in-Parsed : goal.nested-returns-in_ok-n-in-Parsed
unfolding body
nested-returns-in_ok-n-in-Parsed t c = reads-body c.open.ensures c.in_ok-left.was (does-leads c.name_shape.ensures (c.in_ok-shape.was ∙ ap Ok c.in-Parsed.is) (does-sub (does-part c.parse.ensures) c.in_ok-n-in-Parsed.was (closes c.above.ensures refl refl)))

pub nested-returns-in_err-n-in-Template : goal.nested-returns-in_err-n-in-Template
unfolding body
nested-returns-in_err-n-in-Template t c = reads-body c.open.ensures c.in_ok-left.was (does-leads c.name_shape.ensures (c.in_ok-shape.was ∙ ap Ok c.in-Template.is) (sub-refused c.tmpl.ensures c.in_err-n-in-Template.was (handed c.from_residual-in_err-n-in-Template.ensures)))

pub nested-returns-in_ok-n-in-Template : goal.nested-returns-in_ok-n-in-Template
unfolding body
nested-returns-in_ok-n-in-Template t c = reads-body c.open.ensures c.in_ok-left.was (does-leads c.name_shape.ensures (c.in_ok-shape.was ∙ ap Ok c.in-Template.is) (does-sub c.tmpl.ensures c.in_ok-n-in-Template.was (does-keeps c.memorize_name.ensures does-ret)))

pub nested-returns-in-Leaf : goal.nested-returns-in-Leaf
unfolding body
nested-returns-in-Leaf t c = reads-body c.open.ensures c.in_ok-left.was (does-leads c.name_shape.ensures (c.in_ok-shape.was ∙ ap Ok c.in-Leaf.is) (c.leaf_name.ensures _))

pub parse-returns-in_err-left : goal.parse-returns-in_err-left
parse-returns-in_err-left t c = reads-deep c.open.ensures c.in_err-left.was (handed c.from_residual.ensures)

pub parse-returns-in_err-expect : goal.parse-returns-in_err-expect
unfolding body
parse-returns-in_err-expect t c = reads-body c.open.ensures c.in_ok-left.was (value-bad (values-expect "?" c.expect.ensures) c.in_err-expect.was (handed c.from_residual-in_err-expect.ensures))

pub parse-returns : goal.parse-returns
unfolding body
parse-returns t c = reads-body c.open.ensures c.in_ok-left.was (does-value (values-expect "?" c.expect.ensures) c.in_ok-expect.was c.pform.ensures)

pub pform-returns-in-Md5 : goal.pform-returns-in-Md5
pform-returns-in-Md5 t c = does-leads c.parse_form.ensures (ap Ok c.in-Md5.is) c.parse_md5.ensures

pub pform-returns-in-Guard : goal.pform-returns-in-Guard
pform-returns-in-Guard t c = does-leads c.parse_form.ensures (ap Ok c.in-Guard.is) c.pguard.ensures

pub pform-returns-in-Template : goal.pform-returns-in-Template
pform-returns-in-Template t c = does-leads c.parse_form.ensures (ap Ok c.in-Template.is) c.ptmpl.ensures

pub pform-returns-in-Name : goal.pform-returns-in-Name
pform-returns-in-Name t c = does-leads c.parse_form.ensures (ap Ok c.in-Name.is) c.pname.ensures

pub pname-returns-in_err-s : goal.pname-returns-in_err-s
unfolding parse_of
pname-returns-in_err-s t c = sub-refused (does-part c.name.ensures) c.in_err-s.was (handed c.from_residual.ensures)

pub pname-returns-in_err-index : goal.pname-returns-in_err-index
unfolding parse_of
pname-returns-in_err-index t c = does-sub (does-part c.name.ensures) c.in_ok-s.was (value-bad c.guard_index.ensures c.in_err-index.was (handed c.from_residual-in_err-index.ensures))

pub pname-returns-in_err-n : goal.pname-returns-in_err-n
unfolding parse_of
pname-returns-in_err-n t c = does-sub (does-part c.name.ensures) c.in_ok-s.was (does-value c.guard_index.ensures c.in_ok-index.was (sub-refused (does-part c.sym.ensures) c.in_err-n.was (handed c.from_residual-in_err-n.ensures)))

pub pname-returns : goal.pname-returns
unfolding parse_of
pname-returns t c = does-sub (does-part c.name.ensures) c.in_ok-s.was (does-value c.guard_index.ensures c.in_ok-index.was (does-sub (does-part c.sym.ensures) c.in_ok-n.was (c.parsed.ensures _)))

pub pguard-returns-in_err-number : goal.pguard-returns-in_err-number
unfolding parse_of
pguard-returns-in_err-number t c = value-bad c.guard_number.ensures c.in_err-number.was (handed c.from_residual.ensures)

pub pguard-returns-in_err-s : goal.pguard-returns-in_err-s
unfolding parse_of
pguard-returns-in_err-s t c = does-value c.guard_number.ensures c.in_ok-number.was (sub-refused (does-part c.oguard.ensures) c.in_err-s.was (handed c.from_residual-in_err-s.ensures))

pub pguard-returns-in_err-n : goal.pguard-returns-in_err-n
unfolding parse_of body
pguard-returns-in_err-n t c = does-value c.guard_number.ensures c.in_ok-number.was (does-sub (does-part c.oguard.ensures) c.in_ok-s.was (sub-refused (does-part (reads-opens (GuardType c.in_ok-number.number) (c.literal_part.ensures (c.in_ok-number.number ∷ []) refl))) c.in_err-n.was (handed c.from_residual-in_err-n.ensures)))

pub pguard-returns : goal.pguard-returns
unfolding parse_of body
pguard-returns t c = does-value c.guard_number.ensures c.in_ok-number.was (does-sub (does-part c.oguard.ensures) c.in_ok-s.was (does-sub (does-part (reads-opens (GuardType c.in_ok-number.number) (c.literal_part.ensures (c.in_ok-number.number ∷ []) refl))) c.in_ok-n.was (c.parsed.ensures _)))

pub ptmpl-returns-in_err-s : goal.ptmpl-returns-in_err-s
unfolding parse_of
ptmpl-returns-in_err-s t c = sub-refused (does-part c.otmpl.ensures) c.in_err-s.was (handed c.from_residual.ensures)

pub ptmpl-returns-in_err-n : goal.ptmpl-returns-in_err-n
unfolding parse_of
ptmpl-returns-in_err-n t c = does-sub (does-part c.otmpl.ensures) c.in_ok-s.was (sub-refused (does-part c.no_type.ensures) c.in_err-n.was (handed c.from_residual-in_err-n.ensures))

pub ptmpl-returns : goal.ptmpl-returns
unfolding parse_of
ptmpl-returns t c = does-sub (does-part c.otmpl.ensures) c.in_ok-s.was (does-sub (does-part c.no_type.ensures) c.in_ok-n.was (c.parsed.ensures _))

pub otmpl-returns-in_err-left : goal.otmpl-returns-in_err-left
otmpl-returns-in_err-left t c = reads-deep c.open.ensures c.in_err-left.was (handed c.from_residual.ensures)

pub oname-returns-in_err-left : goal.oname-returns-in_err-left
oname-returns-in_err-left t c = reads-deep c.open.ensures c.in_err-left.was (handed c.from_residual.ensures)

pub oguard-returns-in_err-left : goal.oguard-returns-in_err-left
oguard-returns-in_err-left t c = reads-deep c.open.ensures c.in_err-left.was (handed c.from_residual.ensures)

pub sym-returns-in_err-left : goal.sym-returns-in_err-left
sym-returns-in_err-left t c = reads-deep c.open.ensures c.in_err-left.was (handed c.from_residual.ensures)

pub otmpl-returns-in_err-n : goal.otmpl-returns-in_err-n
unfolding body
otmpl-returns-in_err-n t c = reads-body c.open.ensures c.in_ok-left.was (sub-refused (does-part c.oname.ensures) c.in_err-n.was (handed c.from_residual-in_err-n.ensures))

pub otmpl-returns : goal.otmpl-returns
unfolding body
otmpl-returns t c = reads-body c.open.ensures c.in_ok-left.was (does-sub (does-part c.oname.ensures) c.in_ok-n.was (closes c.above.ensures refl refl))

pub oname-returns : goal.oname-returns
unfolding body
oname-returns t c = reads-body c.open.ensures c.in_ok-left.was c.tmpl.ensures

pub oguard-returns-in_err-n : goal.oguard-returns-in_err-n
unfolding body
oguard-returns-in_err-n t c = reads-body c.open.ensures c.in_ok-left.was (sub-refused c.nname.ensures c.in_err-n.was (handed c.from_residual-in_err-n.ensures))

pub oguard-returns-in_err-l : goal.oguard-returns-in_err-l
unfolding body
oguard-returns-in_err-l t c = reads-body c.open.ensures c.in_ok-left.was (does-sub c.nname.ensures c.in_ok-n.was (sub-refused c.scope.ensures c.in_err-l.was (handed c.from_residual-in_err-l.ensures)))

pub oguard-returns : goal.oguard-returns
unfolding body
oguard-returns t c = reads-body c.open.ensures c.in_ok-left.was (does-sub c.nname.ensures c.in_ok-n.was (does-sub c.scope.ensures c.in_ok-l.was (closes c.shut.ensures.shuts (rw (c.to-a.ensures, c.from-b.ensures)) refl)))

pub sym-returns-in_err-shape : goal.sym-returns-in_err-shape
unfolding body
sym-returns-in_err-shape t c = reads-body c.open.ensures c.in_ok-left.was (leads-refused c.symbol_shape.ensures c.in_err-shape.was (handed c.from_residual-in_err-shape.ensures))

pub sym-returns-in-Variable : goal.sym-returns-in-Variable
unfolding body
sym-returns-in-Variable t c = reads-body c.open.ensures c.in_ok-left.was (does-leads c.symbol_shape.ensures (c.in_ok-shape.was ∙ ap Ok c.in-Variable.is) (c.var.ensures))

pub sym-returns-in_err-l-in-Table : goal.sym-returns-in_err-l-in-Table
unfolding body
sym-returns-in_err-l-in-Table t c = reads-body c.open.ensures c.in_ok-left.was (does-leads c.symbol_shape.ensures (c.in_ok-shape.was ∙ ap Ok c.in-Table.is) (sub-refused c.scope.ensures c.in_err-l-in-Table.was (handed c.from_residual-in_err-l-in-Table.ensures)))

pub sym-returns-in_ok-l-in-Table : goal.sym-returns-in_ok-l-in-Table
unfolding body
sym-returns-in_ok-l-in-Table t c = reads-body c.open.ensures c.in_ok-left.was (does-leads c.symbol_shape.ensures (c.in_ok-shape.was ∙ ap Ok c.in-Table.is) (does-sub c.scope.ensures c.in_ok-l-in-Table.was (closes c.shut.ensures.shuts (rw c.from-a.ensures) refl)))

pub sym-returns-in_err-x-in-Function : goal.sym-returns-in_err-x-in-Function
unfolding body
sym-returns-in_err-x-in-Function t c = reads-body c.open.ensures c.in_ok-left.was (does-leads c.symbol_shape.ensures (c.in_ok-shape.was ∙ ap Ok c.in-Function.is) (leads-refused c.symbol_head.ensures c.in_err-x-in-Function.was (handed c.from_residual-in_err-x-in-Function.ensures)))

pub sym-returns-in_ok-x-in-Function : goal.sym-returns-in_ok-x-in-Function
unfolding body
sym-returns-in_ok-x-in-Function t c = reads-body c.open.ensures c.in_ok-left.was (does-leads c.symbol_shape.ensures (c.in_ok-shape.was ∙ ap Ok c.in-Function.is) (does-leads c.symbol_head.ensures c.in_ok-x-in-Function.was c.tail.ensures))

pub sym-returns-in-Leaf : goal.sym-returns-in-Leaf
unfolding body
sym-returns-in-Leaf t c = reads-body c.open.ensures c.in_ok-left.was (does-leads c.symbol_shape.ensures (c.in_ok-shape.was ∙ ap Ok c.in-Leaf.is) (closes c.shut_leaf.ensures refl refl))

pub var-returns-in_err-n : goal.var-returns-in_err-n
var-returns-in_err-n t c = sub-refused c.vtype.ensures c.in_err-n.was (handed c.from_residual.ensures)

pub var-returns : goal.var-returns
var-returns t c = does-sub c.vtype.ensures c.in_ok-n.was (does-value c.storage_class-class.ensures refl (closes c.above.ensures refl refl))

pub params-loop-init : goal.params-loop-init
params-loop-init t c = let all : c.turns-most.result - 0 ≡ c.turns-most.result = omega arith in λ g st' t' q. params-starts (all ∙ c.turns-most.ensures) q

pub params-returns-then-list_stops : goal.params-returns-then-list_stops
params-returns-then-list_stops t c =
    let some : 0 < c.turns-most.result - c.loop.counter = omega arith in
    c.loop.invariant _ _ _ (params-ends (c.turns-most.result - c.loop.counter) c.loop.last some c.list_stops.ensures c.if-list_stops.true c.list_end.ensures)

pub params-returns-in_err-last : goal.params-returns-in_err-last
params-returns-in_err-last t c =
    let some : 0 < c.turns-most.result - c.loop.counter = omega arith in
    c.loop.invariant _ _ _ (params-goes (c.turns-most.result - c.loop.counter) c.loop.last some c.list_stops.ensures c.if-list_stops.false (sub-refused c.param.ensures c.in_err-last.was (handed c.from_residual.ensures)))

pub params-loop-preserved : goal.params-loop-preserved
params-loop-preserved t c =
    let some : 0 < c.turns-most.result - c.loop.counter = omega arith in
    let less : c.turns-most.result - (c.loop.counter + 1) ≡ c.turns-most.result - c.loop.counter - 1 = omega arith in
    λ g st' t' q. c.loop.invariant g st' t' (params-goes (c.turns-most.result - c.loop.counter) c.loop.last some c.list_stops.ensures c.if-list_stops.false (does-sub c.param.ensures c.in_ok-last.was (rw less at q)))

pub params-returns : goal.params-returns
params-returns t c =
    let none : c.turns-most.result - c.loop.counter ≤ 0 = omega arith in
    c.loop.invariant _ _ _ (params-out (c.turns-most.result - c.loop.counter) c.loop.last none)

pub scope-loop-init : goal.scope-loop-init
scope-loop-init t c = let all : c.turns-most.result - 0 ≡ c.turns-most.result = omega arith in λ g st' t' q. scope-starts (all ∙ c.turns-most.ensures) q

pub scope-returns-then-consume : goal.scope-returns-then-consume
scope-returns-then-consume t c =
    let some : 0 < c.turns-most.result - c.loop.counter = omega arith in
    c.loop.invariant _ _ _ (scope_ends (c.turns-most.result - c.loop.counter) c.loop.last some c.consume.ensures c.if-consume.true)

pub scope-returns-in_err-last : goal.scope-returns-in_err-last
scope-returns-in_err-last t c =
    let some : 0 < c.turns-most.result - c.loop.counter = omega arith in
    c.loop.invariant _ _ _ (scope-goes (c.turns-most.result - c.loop.counter) c.loop.last some c.consume.ensures c.if-consume.false (sub-refused c.sname.ensures c.in_err-last.was (handed c.from_residual.ensures)))

pub scope-loop-preserved : goal.scope-loop-preserved
scope-loop-preserved t c =
    let some : 0 < c.turns-most.result - c.loop.counter = omega arith in
    let less : c.turns-most.result - (c.loop.counter + 1) ≡ c.turns-most.result - c.loop.counter - 1 = omega arith in
    λ g st' t' q. c.loop.invariant g st' t' (scope-goes (c.turns-most.result - c.loop.counter) c.loop.last some c.consume.ensures c.if-consume.false (does-sub c.sname.ensures c.in_ok-last.was (rw less at q)))

pub scope-returns : goal.scope-returns
scope-returns t c =
    let none : c.turns-most.result - c.loop.counter ≤ 0 = omega arith in
    c.loop.invariant _ _ _ (scope-out (c.turns-most.result - c.loop.counter) c.loop.last none)
