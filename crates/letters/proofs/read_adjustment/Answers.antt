-- Assumes nothing.
use mathlib.Core.Path.{sym, ◌∙◌}
use native.Mathlib.Omega.{arith}
use Rattle.scan.specs.Number.{read_number}
use Rattle.scan.proofs.Fits.{number_fits, value_stays, bad-stays}
use Rattle.letters.proofs.read_adjustment.Goals as goal

pub overflow_add-result : goal.overflow_add-result
overflow_add-result c = record { fits = omega (arith, value_stays read_number number_fits c.args.s.now c.args.at c.requires.1 (sym c.read_number-number.ensures ∙ c.in-Ok.is)) }

pub overflow_add-result-in-Err : goal.overflow_add-result-in-Err
overflow_add-result-in-Err c = record { fits = omega (arith, bad-stays read_number number_fits c.args.s.now c.args.at c.requires.1 (sym c.read_number-number.ensures ∙ c.in-Err.is)) }

pub returns-in-Ok : goal.returns-in-Ok
returns-in-Ok c = rw (sym c.read_number-number.ensures ∙ c.in-Ok.is)

pub returns-in-Err : goal.returns-in-Err
returns-in-Err c = rw (sym c.read_number-number.ensures ∙ c.in-Err.is)
