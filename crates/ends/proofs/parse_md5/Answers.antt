-- Assumes nothing.
use Rattle.grammar.specs.Grammar.{parse_of}
use Rattle.steps.proofs.Laws.{handed, does-part, does-sub, sub-refused}
use Rattle.ends.proofs.parse_md5.Goals as goal

pub returns-in_err-n : goal.returns-in_err-n
unfolding parse_of
returns-in_err-n c = sub-refused (does-part c.md5_symbol.ensures) c.in_err-n.was (handed c.from_residual.ensures)

pub returns-in_err-ty : goal.returns-in_err-ty
unfolding parse_of
returns-in_err-ty c = does-sub (does-part c.md5_symbol.ensures) c.in_ok-n.was (sub-refused (does-part c.no_type.ensures) c.in_err-ty.was (handed c.from_residual-in_err-ty.ensures))

pub returns : goal.returns
unfolding parse_of
returns c = does-sub (does-part c.md5_symbol.ensures) c.in_ok-n.was (does-sub (does-part c.no_type.ensures) c.in_ok-ty.was (c.parsed.ensures _))
