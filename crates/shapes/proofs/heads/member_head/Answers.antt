-- Assumes nothing.
use Rattle.steps.proofs.Laws.{handed}
use Rattle.steps.proofs.Leads.{leads-alike, leads-bad, leads-value}
use Rattle.shapes.proofs.Tails.{member_alike}
use mathlib.Core.Path.{refl, sym, ◌∙◌}
use Rattle.shapes.proofs.Endings.{values-else, values-when}
use Rattle.steps.proofs.Choices.{values-ret}
use Rattle.grammar.specs.Grammar.{member_function}
use Rattle.shapes.proofs.heads.member_head.Goals.{then-is_static, else-is_static}
use Rattle.shapes.proofs.heads.member_head.Goals as goal

pub returns-in_err-func_class : goal.returns-in_err-func_class
unfolding member_function
returns-in_err-func_class c = leads-bad c.func_class.ensures c.in_err-func_class.was (handed c.from_residual.ensures)

pub returns : goal.returns
unfolding member_function
returns c =
    leads-value c.func_class.ensures c.in_ok-func_class.was (elim c.if-is_static.branch [
      | then-is_static w ↦ leads-value (rw (w.class-is, w.st-is) (values-when (sym c.is_static.ensures ∙ w.if-is_static.true) values-ret)) refl (leads-alike (member_alike _ _) c.conventions.ensures)
      | else-is_static w ↦ leads-value (rw (w.class-is, w.st-is) (values-else (sym c.is_static.ensures ∙ w.if-is_static.false) w.func_qualifiers-class.ensures)) refl (leads-alike (member_alike _ _) c.conventions.ensures)
    ])
