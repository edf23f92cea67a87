-- Assumes nothing.
use Rattle.std.proofs.Common.{sym, ◌∙◌}
use Rattle.text.specs.Spaces.{asks_by}
use Rattle.text.specs.Words.{conventions}
use Rattle.text.proofs.Seq.{writes-seq, writes-none, writes-is}
use Rattle.serializer.specs.Serializer.{write_calling_conv}
use Rattle.serializer.proofs.Spelled.{past-list, convention_is}
use Rattle.serializer.proofs.types.put_calling_conv.Goals as goal
use Rattle.serializer.proofs.types.put_calling_conv.Goals.{then-has-via-then-has, then-has-via-else-has+then-conv-gt-FASTCALL}

pub returns-then-has : goal.returns-then-has
unfolding write_calling_conv asks_by
returns-then-has c = elim c.then-has.branch [
  | then-has-via-then-has w ↦ rw (sym c.has.ensures ∙ w.if-has.true) (writes-seq c.put_space.ensures writes-none)
  | then-has-via-else-has+then-conv-gt-FASTCALL w ↦ rw (sym c.has.ensures ∙ w.if-has.false) (writes-seq c.put_space.ensures (writes-is (past-list conventions _ w.if-conv-gt-FASTCALL.true) writes-none))
]

pub returns : goal.returns
unfolding write_calling_conv asks_by
returns c = rw (sym c.has.ensures ∙ c.if-has.false) (writes-seq c.put_space.ensures (writes-is (convention_is _ c.if-conv-gt-FASTCALL.false) c.put_word.ensures))
