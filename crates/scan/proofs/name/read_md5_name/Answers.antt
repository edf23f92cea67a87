-- Assumes nothing.
use mathlib.Core.Path.{sym, ◌∙◌}
use native.Mathlib.Omega.{arith}
use lib.ListN.{drop, length-drop}
use borrow.Author.Tests.{eq-eqb, ne_eqb}
use Rattle.scan.specs.Name.{read_hex_digits}
use lib.Seq.{drop-drop}
use Rattle.scan.proofs.Names.{hex-digits-fit}
use Rattle.scan.proofs.name.read_md5_name.Goals as goal

pub returns-then-n-ne-MD5_DIGITS : goal.returns-then-n-ne-MD5_DIGITS
returns-then-n-ne-MD5_DIGITS c = rw (ne_eqb (read_hex_digits (drop c.args.at c.args.s.now)) 32 (λ e. c.if-n-ne-MD5_DIGITS.true (c.read_hex_digits-n.ensures ∙ e)), c.read_hex_digits-n.ensures)

pub overflow_add-at : goal.overflow_add-at
overflow_add-at c = omega (arith, hex-digits-fit (drop c.args.at c.args.s.now), length-drop c.args.at c.args.s.now, c.read_hex_digits-n.ensures, c.if-n-ne-MD5_DIGITS.false)

pub returns-then-consume : goal.returns-then-consume
returns-then-consume c = rw (eq-eqb _ _ (sym c.read_hex_digits-n.ensures ∙ c.if-n-ne-MD5_DIGITS.false), drop-drop 32 c.args.at c.args.s.now, sym c.consume.ensures ∙ c.if-consume.true)

pub returns-else-consume : goal.returns-else-consume
returns-else-consume c = rw (eq-eqb _ _ (sym c.read_hex_digits-n.ensures ∙ c.if-n-ne-MD5_DIGITS.false), drop-drop 32 c.args.at c.args.s.now, sym c.consume.ensures ∙ c.if-consume.false)
