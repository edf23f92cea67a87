-- Assumes nothing.
use Rattle.std.proofs.Common.{sym, ap}
use Rattle.text.specs.Emit.{when, lit, ◌⨾◌}
use Rattle.text.specs.Words.{word}
use Rattle.text.proofs.Seq.{writes-seq, writes-when, writes-is}
use Rattle.serializer.specs.Serializer.{write_storage_class}
use Rattle.serializer.proofs.types.put_storage_class.Goals as goal

pub returns : goal.returns
unfolding write_storage_class word
returns c = writes-seq
    (writes-when _ c.has.ensures (writes-is (ap (λ r. when c.has.result (r ⨾ lit (word 106))) (sym c.qualifier_space-rule.ensures)) c.put_apart_if.ensures))
    (writes-when _ c.has-2.ensures (writes-is (ap (λ r. when c.has-2.result (r ⨾ lit (word 107))) (sym c.qualifier_space-rule.ensures)) c.put_apart_if-2.ensures))
