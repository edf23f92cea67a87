-- Assumes nothing.
use Rattle.std.proofs.Common.{sym, ap, ◌∙◌, ◌+◌, ◌-◌, arith, drop}
use lib.Seq.{drop-drop}
use borrow.Author.Tests.{le-leb, lt-leb}
use Rattle.std.proofs.lemmas.Result.{err_from_is_err_and}
use Rattle.scan.specs.Number.{read_guard_number, guard_digits}
use Rattle.scan.proofs.Laws.{got, ended, refused-at}
use Rattle.scan.proofs.Numbers.{inside, guard_is}
use Rattle.scan.proofs.number.read_guard_number.Goals as goal

pub returns-in_err-c : goal.returns-in_err-c
unfolding read_guard_number
returns-in_err-c c =
    let p = err_from_is_err_and c.from_residual.result c.from_residual.ensures.1 in
    rw (ended _ (sym c.get.ensures ∙ c.in_err-c.ensures.ok_part), p.1, p.2, refused-at _ c.in_err-c.ensures.value c.in_err-c.ensures.ok_part)

pub read_digits-requires-clause-within : goal.read_digits-requires-clause-within
read_digits-requires-clause-within c = omega (arith, inside c.args.s.now c.args.at (sym c.get.ensures ∙ c.in_ok-c.ensures.ok_part))

pub returns-in-48-to-57 : goal.returns-in-48-to-57
unfolding read_guard_number
returns-in-48-to-57 c =
    rw (got _ (sym c.get.ensures ∙ c.in_ok-c.ensures.ok_part), le-leb 48 c.in_ok-c.c (omega arith), le-leb c.in_ok-c.c 57 (omega arith))
    (c.read_digits.ensures ∙ sym (guard_is 1 (c.in_ok-c.c - 48) (drop (c.args.at + 1) c.args.s.now)) ∙ ap (guard_digits 1 (c.in_ok-c.c - 48)) (sym (drop-drop 1 c.args.at c.args.s.now)))

pub returns-in_default : goal.returns-in_default
unfolding read_guard_number
returns-in_default c = rw (got _ (sym c.get.ensures ∙ c.in_ok-c.ensures.ok_part), lt-leb 48 c.in_ok-c.c (omega arith))

pub returns-in_default-2 : goal.returns-in_default-2
unfolding read_guard_number
returns-in_default-2 c = rw (got _ (sym c.get.ensures ∙ c.in_ok-c.ensures.ok_part), le-leb 48 c.in_ok-c.c (omega arith), lt-leb c.in_ok-c.c 57 (omega arith))
