-- Assumes nothing.
use mathlib.Core.List.{[]}
use mathlib.Core.Path.{refl, sym, ◌∙◌}
use borrow.Author.Tests.{le-leb, lt-leb}
use Rattle.grammar.specs.Grammar.{body, list_end, Variadic}
use Rattle.steps.proofs.Laws.{handed, values-expect, does-ret, does-look, does-when, does-else, does-part, does-sub, sub-refused, does-value, value-bad, on-there, on-absent}
use Rattle.ends.proofs.Parts.{reads-opens}
use Rattle.ends.proofs.list_end.Goals as goal

pub returns-in_err-n : goal.returns-in_err-n
unfolding list_end body
returns-in_err-n c = on-there "Z" (sym c.consume.ensures ∙ c.if-consume.true) (sub-refused (does-part (reads-opens Variadic (c.literal_part.ensures [] refl))) c.in_err-n.was (handed c.from_residual.ensures))

pub returns-then-consume : goal.returns-then-consume
unfolding list_end body
returns-then-consume c = on-there "Z" (sym c.consume.ensures ∙ c.if-consume.true) (does-sub (does-part (reads-opens Variadic (c.literal_part.ensures [] refl))) c.in_ok-n.was (c.place.ensures _))

pub returns-then-r-st : goal.returns-then-r-st
unfolding list_end
returns-then-r-st c = on-absent "Z" (sym c.consume.ensures ∙ c.if-consume.false) (does-look (does-when (le-leb _ _ c.if-r-st.true) does-ret))

pub returns-in_err-expect : goal.returns-in_err-expect
unfolding list_end
returns-in_err-expect c = on-absent "Z" (sym c.consume.ensures ∙ c.if-consume.false) (does-look (does-else (lt-leb _ _ c.if-r-st.false) (value-bad (values-expect "@" c.expect.ensures) c.in_err-expect.was (handed c.from_residual-in_err-expect.ensures))))

pub returns : goal.returns
unfolding list_end
returns c = on-absent "Z" (sym c.consume.ensures ∙ c.if-consume.false) (does-look (does-else (lt-leb _ _ c.if-r-st.false) (does-value (values-expect "@" c.expect.ensures) c.in_ok-expect.was does-ret)))
