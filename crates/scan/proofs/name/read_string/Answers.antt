-- Assumes nothing.
use Rattle.std.proofs.Common.{◌∙◌, sym, ap}
use Rattle.scan.specs.Name.{read_string}
use Rattle.scan.proofs.Names.{near}
use Rattle.scan.proofs.name.read_string.Goals as goal

pub returns-in-Ok : goal.returns-in-Ok
returns-in-Ok c = sym (near 16 0 c.rest-t.result.now (sym c.search.ensures ∙ c.in-Ok.is)) ∙ ap read_string c.rest-t.ensures

pub returns : goal.returns
returns c = c.search_blocks.ensures ∙ ap read_string c.rest-t.ensures
