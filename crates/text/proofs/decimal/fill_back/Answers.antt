-- Assumes nothing.
use Rattle.std.proofs.Common.{◌≡◌, drop, sym, ap, ◌∙◌, arith, length-set, rules}
use lib.Seq.{drop-length}
use Rattle.text.specs.Decimal.{digits}
use Rattle.text.proofs.Digits.{digits-none, digits_last, digits_more, drop-store}
use Rattle.text.proofs.decimal.fill_back.Goals as goal

pub loop-i-init : goal.loop-i-init
loop-i-init c = (search rules, search rules, search rules, ap (digits _ _) (sym (drop-length c.args.buf.now)))

pub returns-then-v-lt10 : goal.returns-then-v-lt10
returns-then-v-lt10 c = (simp length-set (omega arith), drop-store _ _ _ c.loop-i-test.true (omega arith) ∙ sym (c.loop-i.invariant.3 ∙ digits_last _ _ _ c.loop-i-test.true c.if-v-lt10.true))

pub loop-i-preserved : goal.loop-i-preserved
loop-i-preserved c = (omega arith, omega arith, simp length-set c.loop-i.invariant.2, c.loop-i.invariant.3 ∙ digits_more _ _ _ c.loop-i-test.true c.if-v-lt10.false ∙ ap (digits _ _) (sym (drop-store _ _ _ c.loop-i-test.true (omega arith))))

pub returns : goal.returns
returns c = let e : 0 ≡ c.loop-i.i = omega arith in (omega arith, ap (λ i. drop i c.loop-i.buf) e ∙ sym (c.loop-i.invariant.3 ∙ digits-none _ _ _ (omega arith)))
