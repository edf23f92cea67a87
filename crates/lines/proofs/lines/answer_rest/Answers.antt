-- Assumes nothing.
use mathlib.Core.Path.{◌≡◌}
use native.Mathlib.Omega.{arith}
use lib.ListN.{length}
use Rattle.std.proofs.lemmas.Bool.Decides.{nat_tests}
use Rattle.lines.proofs.Steps.{rest_put, rest-owes, none_owes}
use Rattle.lines.proofs.lines.answer_rest.Goals as goal

pub returns-then-is_empty : goal.returns-then-is_empty
returns-then-is_empty c =
    let z : length c.args.rest.now ≡ 0 = grind (arith, nat_tests) in
    (omega arith, none_owes _ _ z)

pub returns : goal.returns
returns c =
    let n : length c.args.rest.now ≡ 0 → ⊥ = grind (arith, nat_tests) in
    (rest_put c.args.rest.now c.answer_line.ensures (omega arith), rest-owes c.args.rest.now c.answer_line.ensures (omega arith) c.requires.fact n)
