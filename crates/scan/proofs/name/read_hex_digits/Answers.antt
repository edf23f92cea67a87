-- Assumes nothing.
use Rattle.std.proofs.Common.{◌∙◌, ap, rules, tests}
use Rattle.std.proofs.lemmas.Iterator.{YieldsList-from_slice}
use Rattle.std.proofs.lemmas.Iterator.Consumers.{count_from_yields_List}
use Rattle.std.proofs.lemmas.Iterator.Search.{YieldsList-from_take_while}
use Rattle.std.proofs.lemmas.List.Folds.{length-prefix_len}
use Rattle.scan.specs.Bytes.{is_hex}
use Rattle.scan.specs.Name.{read_hex_digits}
use Rattle.scan.proofs.Names.{hex-digits}
use Rattle.scan.proofs.name.read_hex_digits.Goals as goal

pub returns : goal.returns
returns c =
    let r = c.rest.result.now in
    count_from_yields_List c.take_while.result _ c.count.ensures.ran (YieldsList-from_take_while _ is_hex (YieldsList-from_slice r cc) c.take_while.ensures.closure c.take_while.ensures.done (λ x b q k. search (rules, tests)))
    ∙ length-prefix_len is_hex r ∙ hex-digits r ∙ ap read_hex_digits c.rest.ensures
