-- Assumes nothing.
use Rattle.std.proofs.Common.{sym, ◌∙◌, arith}
use Rattle.text.proofs.Seq.{writes-none, writes-is}
use Rattle.serializer.specs.Pieces.{class_name}
use Rattle.serializer.proofs.Spelled.{class-is, no-class-below, no-class-above}
use Rattle.serializer.proofs.types.put_class_name.Goals as goal

pub returns-then-has : goal.returns-then-has
unfolding class_name
returns-then-has c = rw (sym c.has.ensures ∙ c.if-has.true) writes-none

pub returns-in-34-to-37 : goal.returns-in-34-to-37
returns-in-34-to-37 c = writes-is (class-is _ _ (sym c.has.ensures ∙ c.if-has.false) c.in-34-to-37.if-k-lt34-own.false c.in-34-to-37.if-k-lt38-own.true) c.put_word.ensures

pub returns-then-k-lt34 : goal.returns-then-k-lt34
returns-then-k-lt34 c = writes-is (no-class-below _ _ (sym c.has.ensures ∙ c.if-has.false) (omega arith)) writes-none

pub returns-else-k-lt38 : goal.returns-else-k-lt38
returns-else-k-lt38 c = writes-is (no-class-above _ _ (sym c.has.ensures ∙ c.if-has.false) (omega arith)) writes-none
