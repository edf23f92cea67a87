-- Assumes nothing.
use mathlib.Core.Path.{refl}
use Rattle.lines.proofs.Runs.{all-answered}
use Rattle.lines.proofs.finish.Goals as goal

pub returns : goal.returns
returns c =
    record {
      kept_value = (refl, c.answer_rest-end.ensures.0);
      out_after = c.answer_rest-end.ensures.1;
      all_answered = all-answered _ _ _ c.answer_rest-end.ensures.1;
    }
