-- Assumes nothing.
use Rattle.steps.proofs.Laws.{handed}
use Rattle.steps.proofs.Leads.{leads-bad, leads-ret, leads-value}
use Rattle.shapes.proofs.Endings.{leads-inner}
use Rattle.grammar.specs.Grammar.{rtti_base_class_descriptor}
use Rattle.shapes.proofs.names.base_descriptor.Goals as goal

pub returns-in_err-nv_offset : goal.returns-in_err-nv_offset
unfolding rtti_base_class_descriptor
returns-in_err-nv_offset c = leads-inner (leads-bad c.number.ensures c.in_err-nv_offset.was (handed c.from_residual.ensures))

pub returns-in_err-vbptr_offset : goal.returns-in_err-vbptr_offset
unfolding rtti_base_class_descriptor
returns-in_err-vbptr_offset c = leads-inner (leads-value c.number.ensures c.in_ok-nv_offset.was (leads-inner (leads-bad c.number-2.ensures c.in_err-vbptr_offset.was (handed c.from_residual-in_err-vbptr_offset.ensures))))

pub returns-in_err-vbtable_offset : goal.returns-in_err-vbtable_offset
unfolding rtti_base_class_descriptor
returns-in_err-vbtable_offset c = leads-inner (leads-value c.number.ensures c.in_ok-nv_offset.was (leads-inner (leads-value c.number-2.ensures c.in_ok-vbptr_offset.was (leads-inner (leads-bad c.number-3.ensures c.in_err-vbtable_offset.was (handed c.from_residual-in_err-vbtable_offset.ensures))))))

pub returns-in_err-flags : goal.returns-in_err-flags
unfolding rtti_base_class_descriptor
returns-in_err-flags c = leads-inner (leads-value c.number.ensures c.in_ok-nv_offset.was (leads-inner (leads-value c.number-2.ensures c.in_ok-vbptr_offset.was (leads-inner (leads-value c.number-3.ensures c.in_ok-vbtable_offset.was (leads-inner (leads-bad c.number-4.ensures c.in_err-flags.was (handed c.from_residual-in_err-flags.ensures))))))))

pub returns : goal.returns
unfolding rtti_base_class_descriptor
returns c = leads-inner (leads-value c.number.ensures c.in_ok-nv_offset.was (leads-inner (leads-value c.number-2.ensures c.in_ok-vbptr_offset.was (leads-inner (leads-value c.number-3.ensures c.in_ok-vbtable_offset.was (leads-inner (leads-value c.number-4.ensures c.in_ok-flags.was leads-ret)))))))
