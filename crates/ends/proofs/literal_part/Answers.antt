-- Assumes nothing.
use mathlib.Core.Path.{refl, sym}
use Rattle.steps.proofs.Laws.{handed, values-stands, does-value, value-bad, closes}
use Rattle.ends.proofs.Parts.{opens-deep, opens-body}
use Rattle.ends.proofs.literal_part.Goals as goal

pub returns-in_err-open : goal.returns-in_err-open
returns-in_err-open c = λ numbers e. opens-deep c.open.ensures c.in_err-open.was (handed c.from_residual.ensures)

pub returns-in_err-expect : goal.returns-in_err-expect
returns-in_err-expect c = λ numbers e. opens-body c.open.ensures c.in_ok-open.was (value-bad (values-stands c.args.literal.now c.expect.ensures) c.in_err-expect.was (handed c.from_residual-in_err-expect.ensures))

pub returns : goal.returns
returns c = λ numbers e. opens-body c.open.ensures c.in_ok-open.was (does-value (values-stands c.args.literal.now c.expect.ensures) c.in_ok-expect.was (closes c.shut_leaf.ensures (sym e) refl))
