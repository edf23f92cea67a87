-- Assumes nothing.
use mathlib.Core.Path.{◌∙◌, sym, refl}
use native.Mathlib.Omega.{arith}
use Rattle.strings.specs.Encoded.{character}
use Rattle.strings.proofs.Fit.{character-fits}
use Rattle.scan.proofs.Fits.{value_stays}
use Rattle.meaning.proofs.Decoded.{character-takes, string-longer, string-other, string-same, string-shorter, string-end}
use borrow.Author.Rules.{rules}
use Rattle.meaning.proofs.same_decoded.Goals as goal

pub loop-v-init : goal.loop-v-init
loop-v-init c = (search rules, search rules, refl)

pub overflow_add-i : goal.overflow_add-i
overflow_add-i c = record { fits = omega (arith, (value_stays character character-fits c.args.a.now c.loop-v.i c.loop-v.invariant.0 (sym c.read_character-x.ensures ∙ c.in-Ok.is))) }

pub overflow_add-j : goal.overflow_add-j
overflow_add-j c = record { fits = omega (arith, (value_stays character character-fits c.args.b.now c.loop-v.j c.loop-v.invariant.1 (sym c.read_character-y.ensures ∙ c.in-Ok-y.is))) }

pub loop-v-smaller : goal.loop-v-smaller
loop-v-smaller c = omega (arith, (value_stays character character-fits c.args.a.now c.loop-v.i c.loop-v.invariant.0 (sym c.read_character-x.ensures ∙ c.in-Ok.is)), character-takes _ (sym c.read_character-x.ensures ∙ c.in-Ok.is))

pub loop-v-preserved : goal.loop-v-preserved
loop-v-preserved c = ((value_stays character character-fits c.args.a.now c.loop-v.i c.loop-v.invariant.0 (sym c.read_character-x.ensures ∙ c.in-Ok.is)), (value_stays character character-fits c.args.b.now c.loop-v.j c.loop-v.invariant.1 (sym c.read_character-y.ensures ∙ c.in-Ok-y.is)), c.loop-v.invariant.2 ∙ string-same c.args.a.now c.args.b.now c.loop-v.i c.loop-v.j (sym c.read_character-x.ensures ∙ c.in-Ok.is) (sym c.read_character-y.ensures ∙ c.in-Ok-y.is) c.if-v-w.false)

pub returns-then-v-w : goal.returns-then-v-w
returns-then-v-w c = sym (c.loop-v.invariant.2 ∙ string-other c.args.a.now c.args.b.now c.loop-v.i c.loop-v.j (sym c.read_character-x.ensures ∙ c.in-Ok.is) (sym c.read_character-y.ensures ∙ c.in-Ok-y.is) c.if-v-w.true)

pub returns-in-Err-y : goal.returns-in-Err-y
returns-in-Err-y c = sym (c.loop-v.invariant.2 ∙ string-longer c.args.a.now c.args.b.now c.loop-v.i c.loop-v.j (sym c.read_character-x.ensures ∙ c.in-Ok.is) (sym c.read_character-y.ensures ∙ c.in-Err-y.is))

pub returns-in-Ok-y-2 : goal.returns-in-Ok-y-2
returns-in-Ok-y-2 c = sym (c.loop-v.invariant.2 ∙ string-shorter c.args.a.now c.args.b.now c.loop-v.i c.loop-v.j (sym c.read_character-x.ensures ∙ c.in-Err.is) (sym c.read_character-y.ensures ∙ c.in-Ok-y-2.is))

pub returns-in-Err-y-2 : goal.returns-in-Err-y-2
returns-in-Err-y-2 c = sym (c.loop-v.invariant.2 ∙ string-end c.args.a.now c.args.b.now c.loop-v.i c.loop-v.j (sym c.read_character-x.ensures ∙ c.in-Err.is) (sym c.read_character-y.ensures ∙ c.in-Err-y-2.is))
