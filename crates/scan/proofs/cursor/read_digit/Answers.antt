-- Assumes nothing.
use mathlib.Core.Path.{refl}
use mathlib.Core.List.{◌∷◌}
use Rattle.std.proofs.Common.{sym, ◌∙◌, drop, ◌-◌, arith, Some, None}
use Rattle.scan.specs.Cursor.{read_digit}
use Rattle.scan.proofs.Laws.{got, ended, on-range}
use Rattle.scan.proofs.cursor.read_digit.Goals as goal

pub returns-in_err-c : goal.returns-in_err-c
unfolding read_digit
returns-in_err-c c = rw (ended _ (sym c.get.ensures ∙ c.in_err-c.was)) c.from_residual.ensures

pub returns-in-48-to-57 : goal.returns-in-48-to-57
unfolding read_digit
returns-in-48-to-57 c = rw (got _ (sym c.get.ensures ∙ c.in_ok-c.was)) (on-range 48 10 (λ d. Some (d - 48)) (λ d. read_digit (d ∷ drop 1 (drop c.args.at c.args.s.now))) refl c.in_ok-c.c (omega arith) (omega arith))

pub returns-in_default : goal.returns-in_default
unfolding read_digit
returns-in_default c = rw (got _ (sym c.get.ensures ∙ c.in_ok-c.was)) (on-range 0 48 (λ d. None) (λ d. read_digit (d ∷ drop 1 (drop c.args.at c.args.s.now))) refl c.in_ok-c.c (omega arith) (omega arith))

pub returns-in_default-2 : goal.returns-in_default-2
unfolding read_digit
returns-in_default-2 c = rw (got _ (sym c.get.ensures ∙ c.in_ok-c.was)) (on-range 58 198 (λ d. None) (λ d. read_digit (d ∷ drop 1 (drop c.args.at c.args.s.now))) refl c.in_ok-c.c (omega arith) (omega arith))
