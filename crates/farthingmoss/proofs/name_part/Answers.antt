-- Assumes nothing.
use mathlib.Core.Bool.{Bool, true, false}
use mathlib.Core.List.{List, []}
use mathlib.Core.Path.{◌≡◌, refl, sym, ap, ◌∙◌}
use lib.ListN.{length}
use Prim.Native.Nat.{ℕ}
use Rattle.std.specs.Prelude.{Ok, Err, is_err}
use Rattle.scan.specs.Bytes.{pick}
use Rattle.gates.specs.Gates.{Gate, symbol_gate}
use Rattle.farthingmoss.specs.declared.Counts.{Counts}
use Rattle.farthingmoss.specs.declared.Refused.TheVariants.{BadTable}
use Rattle.farthingmoss.specs.Call.{Answer, through, kept, name_ok, name_answer, name_of}
use Rattle.farthingmoss.proofs.name_part.Goals as goal

module _ (z : Counts) (p : List ℕ) where
  refused-empty : (g : Gate) (is : Bool) → is_err (through g (pick is (Ok z) (Err BadTable))) ≡ true → [] ≡ kept g (pick is p []) []
  refused-empty (Ok x) true e = cc
  refused-empty (Ok x) false e = refl
  refused-empty (Err g) is e = refl

  asked : (g : Gate) (is : Bool) → is_err (through g (pick is (Ok z) (Err BadTable))) ≡ false → p ≡ kept g (pick is p []) []
  asked (Ok x) true e = refl
  asked (Ok x) false e = cc
  asked (Err g) is e = cc

pub returns-then-is_err-clause-result_value : goal.returns-then-is_err-clause-result_value
unfolding name_answer name_of
returns-then-is_err-clause-result_value c =
    refused-empty _ _ (symbol_gate c.args.symbol.now) (name_ok (length c.args.symbol.now) c.args.table.now c.args.n)
    (ap (λ (a : Answer). is_err a) (sym c.name_question.ensures.value) ∙ sym c.is_err.ensures.value ∙ c.if-is_err.true)

pub returns-clause-result_value : goal.returns-clause-result_value
unfolding name_answer name_of
returns-clause-result_value c =
    (rw (c.cell.ensures.0, c.cell-2.ensures.0) at c.part_of.ensures)
    ∙ asked _ _ (symbol_gate c.args.symbol.now) (name_ok (length c.args.symbol.now) c.args.table.now c.args.n)
    (ap (λ (a : Answer). is_err a) (sym c.name_question.ensures.value) ∙ sym c.is_err.ensures.value ∙ c.if-is_err.false)
