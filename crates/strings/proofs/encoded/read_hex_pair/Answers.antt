-- Assumes nothing.
use lib.ListN.{get_or}
use borrow.Author.Tests.{le-leb, lt-leb}
use native.Mathlib.Omega.{arith}
use Rattle.strings.specs.Encoded.{hex_pair}
use Rattle.scan.proofs.Laws.{split, past}
use Rattle.strings.proofs.encoded.read_hex_pair.Goals as goal

pub returns-then-s-at : goal.returns-then-s-at
unfolding hex_pair
returns-then-s-at c = rw (past c.args.s.now c.args.at c.if-s-at.true)

pub returns-in-65-to-80 : goal.returns-in-65-to-80
unfolding hex_pair
returns-in-65-to-80 c = rw ((split c.args.s.now c.args.at c.if-s-at.false), le-leb _ _ c.in-65-to-80.if-c-lt65-own.false, le-leb (get_or c.args.s.now c.args.at 0) 80 (omega arith)) c.read_low_letter.ensures

pub returns-in_default : goal.returns-in_default
unfolding hex_pair
returns-in_default c = rw ((split c.args.s.now c.args.at c.if-s-at.false), lt-leb _ _ c.in_default.if-c-lt65-own.true)

pub returns-in_default-2 : goal.returns-in_default-2
unfolding hex_pair
returns-in_default-2 c = rw ((split c.args.s.now c.args.at c.if-s-at.false), le-leb _ _ c.in_default.if-c-lt65-own.false, lt-leb _ _ c.in_default.if-c-lt81-own.false)
