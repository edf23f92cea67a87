-- Assumes nothing.
use Rattle.std.proofs.Common.{◌++◌, sym, ap, ◌∙◌}
use Rattle.text.specs.Emit.{lit}
use Rattle.text.specs.Letters.{spell, piece}
use Rattle.text.proofs.Seq.{wrote-is}
use Rattle.text.proofs.Letters.{word-one, word_two, word-all, wrote-both}
use Rattle.text.proofs.buffer.Buffer.put_word.Goals as goal

pub returns-then-b-eq0 : goal.returns-then-b-eq0
returns-then-b-eq0 c = (wrote-is (ap lit (word-one c.args.w (sym c.second-b.ensures ∙ c.if-b-eq0.true))) (rw c.first.ensures at c.put_letters.ensures.0), c.put_letters.ensures.1)

pub returns-then-c-eq0 : goal.returns-then-c-eq0
returns-then-c-eq0 c = (wrote-is (ap lit (word_two c.args.w (sym c.third-c.ensures ∙ c.if-c-eq0.true))) (wrote-both (spell 8 (piece 0 c.args.w)) (spell 8 (piece 1 c.args.w)) (rw c.first.ensures at c.put_letters.ensures.0) (rw c.second-b.ensures at c.put_letters-2.ensures.0)), c.put_letters-2.ensures.1 ∙ c.put_letters.ensures.1)

pub returns : goal.returns
returns c = (wrote-is (ap lit (word-all c.args.w)) (wrote-both (spell 8 (piece 0 c.args.w)) ((spell 8 (piece 1 c.args.w)) ++ ((spell 8 (piece 2 c.args.w)) ++ ((spell 8 (piece 3 c.args.w)) ++ (spell 8 (piece 4 c.args.w))))) (rw c.first.ensures at c.put_letters.ensures.0) (wrote-both (spell 8 (piece 1 c.args.w)) ((spell 8 (piece 2 c.args.w)) ++ ((spell 8 (piece 3 c.args.w)) ++ (spell 8 (piece 4 c.args.w)))) (rw c.second-b.ensures at c.put_letters-2.ensures.0) (wrote-both (spell 8 (piece 2 c.args.w)) ((spell 8 (piece 3 c.args.w)) ++ (spell 8 (piece 4 c.args.w))) (rw c.third-c.ensures at c.put_letters-3.ensures.0) (wrote-both (spell 8 (piece 3 c.args.w)) (spell 8 (piece 4 c.args.w)) (rw c.fourth.ensures at c.put_letters-4.ensures.0) (rw c.fifth.ensures at c.put_letters-5.ensures.0))))), c.put_letters-5.ensures.1 ∙ c.put_letters-4.ensures.1 ∙ c.put_letters-3.ensures.1 ∙ c.put_letters-2.ensures.1 ∙ c.put_letters.ensures.1)
