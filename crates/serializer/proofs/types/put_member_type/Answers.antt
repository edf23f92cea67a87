-- Assumes nothing.
use Rattle.std.proofs.Common.{sym, ◌∙◌}
use Rattle.text.specs.Words.{word}
use Rattle.text.proofs.Seq.{writes-seq, writes-none, writes-when}
use Rattle.serializer.specs.Serializer.{write_member_type}
use Rattle.serializer.proofs.types.put_member_type.Goals as goal

pub returns-then-has : goal.returns-then-has
unfolding write_member_type
returns-then-has c = rw (sym c.has.ensures ∙ c.if-has.true) writes-none

pub returns : goal.returns
unfolding write_member_type word
returns c = rw (sym c.has.ensures ∙ c.if-has.false) (writes-seq (writes-when _ c.has-2.ensures c.put_word_if.ensures) (writes-when _ c.has-3.ensures c.put_word_if-2.ensures))
