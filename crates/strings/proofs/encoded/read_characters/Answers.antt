-- Assumes nothing.
use Prim.Native.Nat.{◌-◌, ◌+◌, ◌<◌, ◌≤◌}
use mathlib.Core.Path.{◌≡◌, sym, ◌∙◌}
use native.Mathlib.Omega.{arith}
use Rattle.strings.specs.Encoded.{character}
use Rattle.strings.proofs.Characters.{characters-done, characters-more, characters-bad}
use Rattle.scan.proofs.Fits.{value_stays, bad-stays}
use Rattle.strings.proofs.Fit.{character-fits}
use Rattle.strings.proofs.encoded.read_characters.Goals as goal

pub loop-init : goal.loop-init
loop-init c =
    let none : c.args.at - c.args.at ≡ 0 = omega arith in
    let all : c.args.count - 0 ≡ c.args.count = omega arith in
    (omega arith, c.requires, rw (none, all))

pub overflow_add-i : goal.overflow_add-i
overflow_add-i c = record { fits = omega (arith, value_stays character character-fits c.args.s.now c.loop.i c.loop.invariant.1 (sym c.read_character.ensures ∙ c.in-Ok.is)) }

pub overflow_add-result : goal.overflow_add-result
overflow_add-result c = record { fits = omega (arith, bad-stays character character-fits c.args.s.now c.loop.i c.loop.invariant.1 (sym c.read_character.ensures ∙ c.in-Err.is)) }

pub returns-in-Err : goal.returns-in-Err
returns-in-Err c =
    let some : 0 < c.args.count - c.loop.counter = omega arith in
    sym (c.loop.invariant.2 ∙ characters-bad _ _ _ some (sym c.read_character.ensures ∙ c.in-Err.is))

pub loop-preserved : goal.loop-preserved
loop-preserved c =
    let some : 0 < c.args.count - c.loop.counter = omega arith in
    let less : c.args.count - c.loop.counter - 1 ≡ c.args.count - (c.loop.counter + 1) = omega arith in
    (omega arith, value_stays character character-fits c.args.s.now c.loop.i c.loop.invariant.1 (sym c.read_character.ensures ∙ c.in-Ok.is), c.loop.invariant.2 ∙ characters-more c.args.s.now c.args.at c.loop.i (c.args.count - c.loop.counter) c.loop.invariant.0 some (sym c.read_character.ensures ∙ c.in-Ok.is) ∙ rw less)

pub returns : goal.returns
returns c =
    let none : c.args.count - c.loop.counter ≤ 0 = omega arith in
    sym (c.loop.invariant.2 ∙ characters-done _ _ _ none)
