-- Assumes nothing.
use mathlib.Core.Path.{ap, sym, ◌∙◌}
use native.Mathlib.Omega.{arith}
use Prim.Native.Nat.{◌+◌, ◌<◌}
use mathlib.Core.Path.{◌≡◌}
use lib.ListN.{length, length-drop, drop}
use Rattle.lines.specs.Output.{newline_at}
use Rattle.lines.proofs.Steps.{line-put, line-owes, newline_found, newline_missed}
use borrow.Author.Rules.{rules}
use Rattle.lines.proofs.lines.answer_lines.Goals as goal

pub loop-out-preserved : goal.loop-out-preserved
loop-out-preserved c =
    let i = c.args.input.now in
    let at = c.loop-out.at in
    let end = at + c.in-Some.n in
    let f = newline_found i at c.in-Some.n c.in-Some.ensures in
    let e : end ≡ at + newline_at (drop at i) = ap (λ n. at + n) (sym f.0) in
    let within : end < length i = omega (arith, f.1, length-drop at i) in
    (omega (arith, within), omega (arith, line-put i at end c.answer_line-put.ensures (omega arith) e within), search rules, λ more. line-owes i at end c.answer_line-put.ensures (omega arith) e within more ∙ c.loop-out.invariant.3 more)

pub returns-in_default : goal.returns-in_default
returns-in_default c = record { within = omega arith; fits = omega arith; owes = c.loop-out.invariant.3; ends = λ _. newline_missed c.args.input.now c.loop-out.at (sym c.in_default.is ∙ c.line_end.ensures) }
