-- Each call has one answer, and leaves one table and one text. Assumes nothing.
use mathlib.Core.Path.{sym, ◌∙◌}
use Rattle.promises.specs.Promises.{OneRead, OneWritten, OneNamed, OnePart}

pub one-read : OneRead
one-read f depth s t b t₁ b₁ t₂ b₂ r₁ r₂ p q = (p.answer ∙ sym q.answer, p.table ∙ sym q.table, p.text ∙ sym q.text)

pub one_written : OneWritten
one_written f depth s t b t₁ b₁ t₂ b₂ r₁ r₂ p q = (p.answer ∙ sym q.answer, p.table ∙ sym q.table, p.text ∙ sym q.text)

pub one-named : OneNamed
one-named s t n t₁ t₂ r₁ r₂ p q = (p.answer ∙ sym q.answer, p.table ∙ sym q.table)

pub one-part : OnePart
one-part s t n p₁ t₁ p₂ t₂ p q = (p.bytes ∙ sym q.bytes, p.table ∙ sym q.table)
