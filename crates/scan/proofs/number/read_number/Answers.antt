-- Assumes nothing.
use Rattle.std.proofs.Common.{eqb, sym, ◌∙◌, arith}
use Rattle.std.proofs.lemmas.Result.{err_from_is_err_and}
use Rattle.scan.specs.Number.{read_number}
use Rattle.scan.proofs.Laws.{ended, refused-at}
use Rattle.scan.proofs.Numbers.{inside, number-from, sign-small}
use Rattle.scan.proofs.number.read_number.Goals as goal

pub returns-in_err-c : goal.returns-in_err-c
unfolding read_number
returns-in_err-c c =
    let p = err_from_is_err_and c.from_residual.result c.from_residual.ensures.1 in
    rw (ended _ (sym c.get.ensures ∙ c.in_err-c.ensures.ok_part), p.1, p.2, refused-at _ c.in_err-c.ensures.value c.in_err-c.ensures.ok_part)

pub read_magnitude-requires : goal.read_magnitude-requires
read_magnitude-requires c = omega (arith, inside c.args.s.now c.args.at (sym c.get.ensures ∙ c.in_ok-c.ensures.ok_part), sign-small (eqb c.in_ok-c.c 63))

pub returns : goal.returns
returns c = c.read_magnitude.ensures ∙ number-from c.args.s.now c.args.at (sym c.get.ensures ∙ c.in_ok-c.ensures.ok_part)
