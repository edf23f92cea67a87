-- Assumes nothing.
use Rattle.grammar.specs.Program.{types}
use Rattle.steps.proofs.Memos.{finds-stored}
use Rattle.steps.proofs.memo.type_of.Goals as goal

pub returns : goal.returns
returns c = finds-stored types c.args.i c.stored.ensures
