-- Assumes nothing.
use Rattle.steps.proofs.Laws.{handed}
use Rattle.steps.proofs.Leads.{leads-bad, leads-value}
use Rattle.shapes.proofs.Bounds.{width_small}
use Rattle.grammar.specs.Grammar.{symbol_type_of}
use Rattle.shapes.proofs.symbols.string.Goals as goal

pub returns-in_err-width : goal.returns-in_err-width
unfolding symbol_type_of
returns-in_err-width c = leads-bad c.string_width.ensures c.in_err-width.was (handed c.from_residual.ensures)

pub characters-requires : goal.characters-requires
characters-requires c = width_small c.string_width.ensures c.in_ok-width.was

pub returns : goal.returns
unfolding symbol_type_of
returns c = leads-value c.string_width.ensures c.in_ok-width.was c.characters.ensures
