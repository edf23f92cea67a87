-- Assumes nothing.
use Rattle.std.proofs.Common.{◌≡◌, ◌+◌, sym, ◌∙◌, arith}
use Rattle.scan.proofs.Numbers.{inside, no-end, digits-end, digits-done, digits-bad, digits-more}
use Rattle.scan.proofs.number.read_digits.Goals as goal

pub loop-c-smaller : goal.loop-c-smaller
loop-c-smaller c = omega (arith, inside c.args.s.now (c.args.at + c.loop-c.n) (sym c.get.ensures ∙ c.in-Some.is))

pub loop-c-preserved : goal.loop-c-preserved
loop-c-preserved c =
    let sum : c.args.at + c.loop-c.n + 1 ≡ c.args.at + (c.loop-c.n + 1) = omega arith in
    let digit = sym c.digit_in.ensures ∙ c.in-Some-digit_in.is in
    (omega (arith, inside c.args.s.now (c.args.at + c.loop-c.n) (sym c.get.ensures ∙ c.in-Some.is)), omega (arith, c.shifted-v.type_inv), c.loop-c.invariant.2 ∙ digits-more _ _ _ _ c.args.s.now (c.args.at + c.loop-c.n) (sym c.get.ensures ∙ c.in-Some.is) (no-end _ _ c.requires.end_is_no_digit digit) digit ∙ rw (sum, c.shifted-v.ensures))

pub returns-in_default : goal.returns-in_default
returns-in_default c = sym (c.loop-c.invariant.2 ∙ digits-end _ _ _ _ c.args.s.now (c.args.at + c.loop-c.n) (sym c.get.ensures ∙ c.in_default.is))

pub returns-in-None : goal.returns-in-None
returns-in-None c = sym (c.loop-c.invariant.2 ∙ digits-done _ _ _ _ c.args.s.now (c.args.at + c.loop-c.n) (sym c.get.ensures ∙ c.in-Some.is) c.if-c-eq64.true)

pub returns-in-None-2 : goal.returns-in-None-2
returns-in-None-2 c = sym (c.loop-c.invariant.2 ∙ digits-bad _ _ _ _ c.args.s.now (c.args.at + c.loop-c.n) (sym c.get.ensures ∙ c.in-Some.is) c.if-c-eq64.false (sym c.digit_in.ensures ∙ c.in-None-2.is))
