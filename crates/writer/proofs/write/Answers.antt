-- Assumes nothing.
use Rattle.std.proofs.Common.{sym, ◌∙◌}
use Rattle.writer.specs.Written.{text_of}
use Rattle.writer.proofs.Ended.{ends-text, ends-cut, ends-whole}
use Rattle.writer.proofs.write.Goals as goal

pub returns-then-is_past : goal.returns-then-is_past
unfolding text_of
returns-then-is_past c = (ends-cut c.parsed.ensures.0 c.if-is_past.ensures, c.text-1.given.1.1 (sym c.parsed.ensures.1) ∙ ends-text c.parsed.ensures.0)

pub returns : goal.returns
unfolding text_of
returns c = (ends-whole c.parsed.ensures.0 c.if-is_past.ensures, c.text-2-1.given.1.1 (sym c.parsed.ensures.1) ∙ ends-text c.parsed.ensures.0)
