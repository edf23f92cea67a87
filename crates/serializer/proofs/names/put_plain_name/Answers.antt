-- Assumes nothing.
use Rattle.std.proofs.Common.{arith}
use Rattle.text.specs.Words.{word}
use Rattle.text.proofs.Seq.{writes-seq, writes-none, writes-is}
use Rattle.serializer.specs.Serializer.{write_plain_name}
use Rattle.serializer.proofs.Spelled.{anonymous-is, no-name-below, no-name-above}
use Rattle.serializer.proofs.names.put_plain_name.Goals as goal

pub returns-in-10 : goal.returns-in-10
unfolding write_plain_name
returns-in-10 c = rw c.in-10.is c.put_part.ensures

pub returns-in-6 : goal.returns-in-6
unfolding write_plain_name word
returns-in-6 c = rw c.in-6.is (writes-seq c.put_word.ensures (writes-seq c.put_part-in-6.ensures c.put.ensures))

pub returns-in-11 : goal.returns-in-11
unfolding write_plain_name
returns-in-11 c = rw c.in-11.is (writes-seq c.put-in-11.ensures (writes-seq c.put_part-in-11.ensures c.put-in-11-2.ensures))

pub returns-in-13 : goal.returns-in-13
unfolding write_plain_name
returns-in-13 c = rw c.in-13.is (writes-seq c.put-in-13.ensures (writes-seq c.put_decimal.ensures c.put-in-13-2.ensures))

pub returns-in-15-to-16 : goal.returns-in-15-to-16
returns-in-15-to-16 c = writes-is (anonymous-is _ _ _ c.in-15-to-16.if-k-lt15-own.false c.in-15-to-16.if-k-lt17-own.true) c.put_word-in-15-to-16.ensures

pub returns-then-k-lt15 : goal.returns-then-k-lt15
returns-then-k-lt15 c = writes-is (no-name-below _ _ _ (omega arith) ((((tt, λ e. omega arith), λ e. omega arith), λ e. omega arith), λ e. omega arith)) writes-none

pub returns-else-k-lt17 : goal.returns-else-k-lt17
returns-else-k-lt17 c = writes-is (no-name-above _ _ _ (omega arith)) writes-none
