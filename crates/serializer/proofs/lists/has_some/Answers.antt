-- Assumes nothing.
use Rattle.std.proofs.Common.{sym, ◌∙◌}
use Rattle.serializer.proofs.Walks.{some-skip, some-test}
use Rattle.serializer.proofs.lists.has_some.Goals as goal

pub returns : goal.returns
returns c = λ s. sym (some-skip _ (c.skip_packs.ensures.0 s) ∙ some-test _ s _ (λ l. c.skip_packs.ensures.2 l s))
