-- Assumes nothing.
use mathlib.Core.Path.{◌≡◌, sym, ap, ap₂, ◌∙◌}
use native.Mathlib.Omega.{arith}
use Prim.Native.Nat.{ℕ}
use mathlib.Core.List.{List}
use Rattle.text.specs.Emit.{Text, Wrote, lit}
use Rattle.text.proofs.Seq.{wrote-is}
use Rattle.answer_line.specs.Line.{answer_line}
use Rattle.answer_line.proofs.Answers.{text-fits, same_line, table-nodes}
use Rattle.scan.specs.Limits.{deepest_reading}
use Rattle.answer_line.proofs.answer_line.Goals as goal

pub put_answer-requires : goal.put_answer-requires
put_answer-requires c = λ k q. omega (arith, text-fits 0 deepest_reading c.args.line.now c.args.table.now _ k (sym c.demangle-a.ensures.value ∙ q))

-- the bytes are back where they were lent
back : {T : Text} {b b' b'' : List ℕ} {o o' : ℕ} → b'' ≡ b' → Wrote T b o b' o' → Wrote T b o b'' o'
back e w = record { buf = e ∙ w.buf; out = w.out }

pub returns : goal.returns
returns c = back (c.out-1.given.1.1 (sym c.put_answer.ensures.1)) (wrote-is (ap lit (sym (ap₂ answer_line c.demangle-a.ensures.value c.demangle-a.ensures.text_after ∙ same_line c.args.line.now c.args.table.now c.args.text.now (table-nodes c.args.table.now c.requires.table_len) c.requires.text_len))) c.put_answer.ensures.0)
