-- Assumes nothing.
use Rattle.std.proofs.Common.{sym, ◌∙◌}
use Rattle.scan.specs.Cursor.{read_hex_digit}
use Rattle.scan.proofs.Laws.{got, ended}
use Rattle.scan.proofs.cursor.read_hex_digit.Goals as goal

pub returns-in_err-c : goal.returns-in_err-c
unfolding read_hex_digit
returns-in_err-c c = rw (ended _ (sym c.get.ensures ∙ c.in_err-c.was)) c.from_residual.ensures

pub returns-then-is_hex : goal.returns-then-is_hex
unfolding read_hex_digit
returns-then-is_hex c = rw (got _ (sym c.get.ensures ∙ c.in_ok-c.was), sym c.is_hex.ensures ∙ c.if-is_hex.true)

pub returns-else-is_hex : goal.returns-else-is_hex
unfolding read_hex_digit
returns-else-is_hex c = rw (got _ (sym c.get.ensures ∙ c.in_ok-c.was), sym c.is_hex.ensures ∙ c.if-is_hex.false)
