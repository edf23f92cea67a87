-- Assumes nothing.
use Rattle.std.proofs.Common.{◌≡◌, ◌+◌, ◌-◌, sym, ◌∙◌, arith}
use Rattle.text.specs.Emit.{lit}
use Rattle.text.specs.Words.{word}
use Rattle.text.proofs.Seq.{writes-none, writes-is}
use Rattle.serializer.specs.Serializer.{write_basic}
use Rattle.serializer.proofs.Spelled.{renamed-is, not-renamed, basic-below, basic-above, no-basic-below, no-basic-above}
use Rattle.serializer.proofs.types.put_basic.Goals as goal
use Rattle.serializer.proofs.types.put_basic.Goals.{then-k-lt49, else-k-lt49+else-k-lt53+then-k-lt60}

pub returns-then-k-lt38 : goal.returns-then-k-lt38
returns-then-k-lt38 c = writes-is (no-basic-below _ _ (omega arith)) writes-none

pub returns-then-has : goal.returns-then-has
returns-then-has c = writes-is (renamed-is _ _ (sym c.has.ensures ∙ c.if-has.true) (omega arith) (omega arith)) c.put_word.ensures

pub returns-else-has : goal.returns-else-has
returns-else-has c = writes-is (not-renamed _ _ (sym c.has.ensures ∙ c.if-has.false) (omega arith) (omega arith)) c.put_word-else-has.ensures

pub returns-else-k-lt60 : goal.returns-else-k-lt60
returns-else-k-lt60 c = writes-is (no-basic-above _ _ (omega arith)) writes-none

pub returns-in-38-to-59 : goal.returns-in-38-to-59
returns-in-38-to-59 c =
    let named : write_basic c.args.flags c.args.k ≡ lit (word (75 + (c.args.k - 38))) =
    elim c.in-38-to-59-1.branch [
      | then-k-lt49 w ↦ basic-below _ _ (omega arith) w.if-k-lt49-1.true
      | else-k-lt49+else-k-lt53+then-k-lt60 w ↦ basic-above _ _ w.if-k-lt53-1.false w.if-k-lt60-1.true
    ] in
    writes-is named c.put_word-in-38-to-59.ensures
