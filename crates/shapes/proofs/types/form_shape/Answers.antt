-- Assumes nothing.
use Rattle.steps.proofs.Leads.{alike-node, leads-alike, leads-ret}
use mathlib.Core.Path.{refl}
use Rattle.grammar.specs.Grammar.{form_type}
use Rattle.shapes.proofs.types.form_shape.Goals as goal

pub returns-in-Enum : goal.returns-in-Enum
unfolding form_type
returns-in-Enum c = rw c.in-Enum.is leads-ret

pub returns-in-FunctionRef : goal.returns-in-FunctionRef
unfolding form_type
returns-in-FunctionRef c = rw c.in-FunctionRef.is leads-ret

pub returns-in-FunctionPtr : goal.returns-in-FunctionPtr
unfolding form_type
returns-in-FunctionPtr c = rw c.in-FunctionPtr.is leads-ret

pub returns-in-MemberFunctionPtr : goal.returns-in-MemberFunctionPtr
unfolding form_type
returns-in-MemberFunctionPtr c = rw c.in-MemberFunctionPtr.is leads-ret

pub returns-in-Array : goal.returns-in-Array
unfolding form_type
returns-in-Array c = rw c.in-Array.is leads-ret

pub returns-in-RValueRef : goal.returns-in-RValueRef
unfolding form_type
returns-in-RValueRef c = rw c.in-RValueRef.is leads-ret

pub returns-in-Function : goal.returns-in-Function
unfolding form_type
returns-in-Function c = rw c.in-Function.is leads-ret

pub returns-in-QualifiedFunction : goal.returns-in-QualifiedFunction
unfolding form_type
returns-in-QualifiedFunction c = rw c.in-QualifiedFunction.is leads-ret

pub returns-in-Alias : goal.returns-in-Alias
unfolding form_type
returns-in-Alias c = rw c.in-Alias.is leads-ret

pub returns-in-Constant : goal.returns-in-Constant
unfolding form_type
returns-in-Constant c = rw c.in-Constant.is c.numbered.ensures

pub returns-in-TemplateParameter : goal.returns-in-TemplateParameter
unfolding form_type
returns-in-TemplateParameter c = rw c.in-TemplateParameter.is c.numbered-in-TemplateParameter.ensures

pub returns-in-EmptyPack : goal.returns-in-EmptyPack
unfolding form_type
returns-in-EmptyPack c = rw c.in-EmptyPack.is (leads-alike (alike-node refl refl refl) leads-ret)

pub returns-in-Nullptr : goal.returns-in-Nullptr
unfolding form_type
returns-in-Nullptr c = rw c.in-Nullptr.is (leads-alike (alike-node refl refl refl) leads-ret)

pub returns-in-Reclassed : goal.returns-in-Reclassed
unfolding form_type
returns-in-Reclassed c = rw c.in-Reclassed.is c.reclassed.ensures

pub returns-in-MemberPointer : goal.returns-in-MemberPointer
unfolding form_type
returns-in-MemberPointer c = rw c.in-MemberPointer.is c.member_pointer.ensures

pub returns-in-Plain : goal.returns-in-Plain
unfolding form_type
returns-in-Plain c = rw c.in-Plain.is c.plain_shape.ensures
