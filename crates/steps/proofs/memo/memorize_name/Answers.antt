-- Assumes nothing.
use mathlib.Core.Path.{refl}
use Rattle.grammar.specs.Program.{names}
use Rattle.steps.proofs.Memos.{keeps-added}
use Rattle.steps.proofs.memo.memorize_name.Goals as goal

pub returns : goal.returns
returns c = keeps-added names c.add.ensures refl
