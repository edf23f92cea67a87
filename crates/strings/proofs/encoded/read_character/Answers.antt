-- Assumes nothing.
use mathlib.Core.Path.{sym, ◌∙◌}
use borrow.Author.Tests.{ne_eqb}
use Rattle.strings.specs.Encoded.{character}
use Rattle.scan.proofs.Laws.{split, past}
use native.Mathlib.Omega.{arith}
use Rattle.strings.proofs.encoded.read_character.Goals as goal

pub returns-then-s-at : goal.returns-then-s-at
unfolding character
returns-then-s-at c = rw (past c.args.s.now c.args.at c.if-s-at.true)

pub overflow_cast-result : goal.overflow_cast-result
overflow_cast-result c = record { fits = omega (arith, c.shared_slice_known-1.given c.args.at) }

pub returns-then-is_plain : goal.returns-then-is_plain
unfolding character
returns-then-is_plain c = rw ((split c.args.s.now c.args.at c.if-s-at.false), sym c.is_plain.ensures ∙ c.if-is_plain.true)

pub returns-then-c-eq63 : goal.returns-then-c-eq63
unfolding character
returns-then-c-eq63 c = rw ((split c.args.s.now c.args.at c.if-s-at.false), c.if-c-eq63.true) c.read_escape.ensures

pub returns-else-c-eq63 : goal.returns-else-c-eq63
unfolding character
returns-else-c-eq63 c = rw ((split c.args.s.now c.args.at c.if-s-at.false), sym c.is_plain.ensures ∙ c.if-is_plain.false, ne_eqb _ _ c.if-c-eq63.false)
