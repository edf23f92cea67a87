-- Assumes nothing.
use Rattle.std.proofs.Common.{sym, ◌∙◌}
use Rattle.std.proofs.lemmas.Result.{err_from_is_err_and}
use borrow.Author.Tests.{lt-ltb, le-ltb}
use Rattle.scan.specs.Number.{read_unsigned}
use Rattle.scan.proofs.number.read_unsigned.Goals as goal

pub returns-in_err-v : goal.returns-in_err-v
unfolding read_unsigned
returns-in_err-v c =
    let p = err_from_is_err_and c.from_residual.result c.from_residual.ensures.1 in
    rw (p.1, p.2, sym c.read_number.ensures ∙ c.in_err-v.was)

pub returns-then-v-lt2147483648 : goal.returns-then-v-lt2147483648
unfolding read_unsigned
returns-then-v-lt2147483648 c = rw (sym c.read_number.ensures ∙ c.in_ok-v.was, lt-ltb _ _ c.if-v-lt2147483648.true)

pub returns-else-v-lt2147483648 : goal.returns-else-v-lt2147483648
unfolding read_unsigned
returns-else-v-lt2147483648 c = rw (sym c.read_number.ensures ∙ c.in_ok-v.was, le-ltb _ _ c.if-v-lt2147483648.false)
