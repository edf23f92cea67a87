-- Assumes nothing.
use Rattle.std.proofs.Common.{arith}
use Rattle.text.specs.Words.{word}
use Rattle.text.proofs.Seq.{writes-seq, writes-none, writes-is}
use Rattle.serializer.specs.Serializer.{write_plain}
use Rattle.serializer.proofs.Spelled.{plain-table, plain-basic, no-plain-below, no-plain-between, no-plain-above}
use Rattle.serializer.proofs.types.put_plain.Goals as goal

pub returns-in-23 : goal.returns-in-23
unfolding write_plain word
returns-in-23 c = rw c.in-23.is (writes-seq c.put_word.ensures c.put_calling_conv.ensures)

pub returns-in-24 : goal.returns-in-24
unfolding write_plain word
returns-in-24 c = rw c.in-24.is (writes-seq c.put_word-in-24.ensures (writes-seq c.put_decimal.ensures c.put.ensures))

pub returns-in-25 : goal.returns-in-25
unfolding write_plain word
returns-in-25 c = rw c.in-25.is (writes-seq c.put_word-in-25.ensures c.put_decimal-in-25.ensures)

pub returns-in-26 : goal.returns-in-26
unfolding write_plain
returns-in-26 c = rw c.in-26.is c.put_decimal-in-26.ensures

pub returns-in-60 : goal.returns-in-60
unfolding write_plain word
returns-in-60 c = rw c.in-60.is c.put_word-in-60.ensures

pub returns-in-62 : goal.returns-in-62
unfolding write_plain word
returns-in-62 c = rw c.in-62.is c.put_word-in-62.ensures

pub returns-in-21-to-22 : goal.returns-in-21-to-22
returns-in-21-to-22 c = writes-is (plain-table _ _ _ _ c.in-21-to-22.if-k-lt21-own.false c.in-21-to-22.if-k-lt23-own.true) c.put_storage_class.ensures

pub returns-in-38-to-59 : goal.returns-in-38-to-59
returns-in-38-to-59 c = writes-is (plain-basic _ _ _ _ c.in-38-to-59.if-k-lt38-own.false c.in-38-to-59.if-k-lt60-own.true) (writes-seq c.put_basic.ensures c.put_storage_class-in-38-to-59.ensures)

pub returns-then-k-lt21 : goal.returns-then-k-lt21
returns-then-k-lt21 c = writes-is (no-plain-below _ _ _ _ (omega arith)) writes-none

pub returns-then-k-lt38 : goal.returns-then-k-lt38
returns-then-k-lt38 c = writes-is (no-plain-between _ _ _ _ (omega arith) (omega arith) ((((((tt, λ e. omega arith), λ e. omega arith), λ e. omega arith), λ e. omega arith), λ e. omega arith), λ e. omega arith)) writes-none

pub returns-else-k-lt60 : goal.returns-else-k-lt60
returns-else-k-lt60 c = writes-is (no-plain-above _ _ _ _ (omega arith) ((((((tt, λ e. omega arith), λ e. omega arith), λ e. omega arith), λ e. omega arith), λ e. omega arith), λ e. omega arith)) writes-none
