-- Assumes nothing.
use mathlib.Core.Path.{sym, ◌∙◌}
use native.Mathlib.Omega.{arith}
use Rattle.strings.proofs.Fit.{takes-stay, refused-stay}
use Rattle.strings.proofs.encoded.read_strung.Goals as goal

pub overflow_add-result : goal.overflow_add-result
overflow_add-result c = record { fits = omega (arith, takes-stay c.kept_count.result c.args.s.now c.args.at c.requires.1 (sym c.read_characters-chars.ensures ∙ c.in-Ok.is)) }

pub overflow_add-result-in-Err : goal.overflow_add-result-in-Err
overflow_add-result-in-Err c = record { fits = omega (arith, refused-stay c.kept_count.result c.args.s.now c.args.at c.requires.1 (sym c.read_characters-chars.ensures ∙ c.in-Err.is)) }

pub returns-in-Ok : goal.returns-in-Ok
returns-in-Ok c = rw (sym c.kept_count.ensures, (sym c.read_characters-chars.ensures ∙ c.in-Ok.is))

pub returns-in-Err : goal.returns-in-Err
returns-in-Err c = rw (sym c.kept_count.ensures, (sym c.read_characters-chars.ensures ∙ c.in-Err.is))
