-- Assumes nothing.
use native.Mathlib.Omega.{arith}
use Rattle.steps.proofs.Laws.{handed}
use Rattle.steps.proofs.Leads.{leads-bad, leads-value}
use Rattle.shapes.proofs.Endings.{leads-inner}
use Rattle.shapes.proofs.Tails.{qualifier-small}
use mathlib.Core.Path.{refl}
use Rattle.steps.proofs.Choices.{values-ret}
use Rattle.grammar.specs.Grammar.{member_classes}
use Rattle.shapes.proofs.heads.pointer_head.Goals as goal

pub overflow_add-class : goal.overflow_add-class
overflow_add-class c = omega (arith, qualifier-small c.qualifier.ensures, c.ptr64-wide.ensures.bits_bound)

pub returns-then-qualifiers : goal.returns-then-qualifiers
unfolding member_classes
returns-then-qualifiers c = rw c.if-qualifiers.true (leads-value c.ptr64-wide.ensures.classes refl (leads-inner (leads-value c.qualifier.ensures refl (leads-value values-ret refl (let q = c.conventions.ensures in (rw c.to.ensures at q))))))

pub returns-in_err-func_class : goal.returns-in_err-func_class
unfolding member_classes
returns-in_err-func_class c = rw c.if-qualifiers.false (leads-value c.ptr64-wide.ensures.classes refl (leads-inner (leads-bad c.func_class.ensures c.in_err-func_class.was (handed c.from_residual.ensures))))

pub returns : goal.returns
unfolding member_classes
returns c = rw c.if-qualifiers.false (leads-value c.ptr64-wide.ensures.classes refl (leads-inner (leads-value c.func_class.ensures c.in_ok-func_class.was (leads-value values-ret refl (let q = c.conventions-2.ensures in (rw c.to.ensures at q))))))
