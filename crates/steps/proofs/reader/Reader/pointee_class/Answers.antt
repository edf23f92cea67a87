-- Assumes nothing.
use mathlib.Core.Path.{refl}
use native.Mathlib.Omega.{arith}
use native.Mathlib.Nat.{add-zero}
use Rattle.steps.proofs.Choices.{values-ret, values-met, values-unmet, values-then, storage-small}
use Rattle.steps.proofs.reader.Reader.pointee_class.Goals as goal

pub returns-then-wide : goal.returns-then-wide
returns-then-wide c = values-then (values-met "E" c.consume-wide.ensures c.if-wide.true values-ret) refl (values-then c.storage_class-class.ensures refl values-ret)

pub returns-else-wide : goal.returns-else-wide
returns-else-wide c = values-then (values-unmet "E" c.consume-wide.ensures c.if-wide.false values-ret) refl (values-then c.storage_class-class.ensures refl (rw add-zero values-ret))

pub overflow_add-result : goal.overflow_add-result
overflow_add-result c = omega (arith, storage-small c.storage_class-class.ensures)
