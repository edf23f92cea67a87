-- Assumes nothing.
use Rattle.std.proofs.Common.{arith, ne_eqb}
use Rattle.text.specs.Words.{word, operators}
use Rattle.text.proofs.Seq.{writes-seq, writes-none, writes-is}
use Rattle.serializer.specs.Serializer.{write_operator_name}
use Rattle.serializer.proofs.Spelled.{past-list, operator-is}
use Rattle.serializer.proofs.names.put_operator_name.Goals as goal

pub returns-in-47 : goal.returns-in-47
unfolding write_operator_name word
returns-in-47 c = rw c.in-47.is (writes-seq c.put_word.ensures c.put_guard.ensures)

pub returns-in-74 : goal.returns-in-74
unfolding write_operator_name word
returns-in-74 c = rw c.in-74.is (writes-seq c.put_word-in-74.ensures c.put_guard-in-74.ensures)

pub returns-in-0-to-73 : goal.returns-in-0-to-73
unfolding write_operator_name
returns-in-0-to-73 c = rw (ne_eqb _ _ c.in-0-to-73.in_default-own.rest.0.1, ne_eqb _ _ c.in-0-to-73.in_default-own.rest.1) (writes-seq (writes-is (operator-is _ (omega arith)) c.put_word-in-0-to-73.ensures) writes-none)

pub returns-else-op-lt74 : goal.returns-else-op-lt74
unfolding write_operator_name
returns-else-op-lt74 c = rw (ne_eqb c.args.op 47 (λ e. omega arith), ne_eqb c.args.op 74 (λ e. omega arith)) (writes-seq (writes-is (past-list operators c.args.op (omega arith)) writes-none) writes-none)
