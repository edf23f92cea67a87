-- Assumes nothing.
use Rattle.grammar.specs.Program.{names}
use Rattle.steps.proofs.Memos.{finds-stored}
use Rattle.steps.proofs.memo.name_of.Goals as goal

pub returns : goal.returns
returns c = finds-stored names c.args.i c.stored.ensures
