-- Assumes nothing.
use mathlib.Core.Path.{refl}
use Rattle.grammar.specs.Program.{types}
use Rattle.steps.proofs.Memos.{keeps-added}
use Rattle.steps.proofs.memo.memorize_type.Goals as goal

pub returns : goal.returns
returns c = keeps-added types c.add.ensures refl
