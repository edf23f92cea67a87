-- Assumes nothing.
use Rattle.std.proofs.Common.{arith}
use Rattle.text.specs.Words.{word}
use Rattle.text.proofs.Seq.{writes-none, writes-is}
use Rattle.serializer.specs.Pieces.{mark}
use Rattle.serializer.proofs.Spelled.{star-is, no-mark}
use Rattle.serializer.proofs.types.put_mark.Goals as goal

pub returns-in-29 : goal.returns-in-29
unfolding mark
returns-in-29 c = rw c.in-29.is c.put.ensures

pub returns-in-30 : goal.returns-in-30
unfolding mark word
returns-in-30 c = rw c.in-30.is c.put_word.ensures

pub returns-in-0-to-28 : goal.returns-in-0-to-28
returns-in-0-to-28 c = writes-is (star-is _ c.in-0-to-28.if-k-lt29-own.true) c.put-in-0-to-28.ensures

pub returns-else-k-lt29 : goal.returns-else-k-lt29
returns-else-k-lt29 c = writes-is (no-mark _ (omega arith)) writes-none
