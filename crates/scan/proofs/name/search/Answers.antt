-- Assumes nothing.
use Rattle.std.proofs.Common.{◌∙◌, sym, ap, eqb, rules, tests}
use Rattle.std.proofs.lemmas.Iterator.{YieldsList-from_slice}
use Rattle.std.proofs.lemmas.Iterator.Search.{position_from_yields_List}
use Rattle.std.proofs.lemmas.Iterator.Adapters.{position_from-zero}
use Rattle.scan.specs.Name.{string_from}
use Rattle.scan.proofs.Names.{spanned, found}
use Rattle.scan.proofs.name.search.Goals as goal

pub returns-in-Some : goal.returns-in-Some
returns-in-Some c =
    let r = c.rest.result.now in
    let first = position_from_yields_List (λ c. eqb c 64) _ _ _ c.position.ensures.ran (YieldsList-from_slice r cc) (λ x b q k. search (rules, tests)) ∙ position_from-zero (λ c. eqb c 64) r in
    ap (spanned c.args.from) (sym c.in-Some.is ∙ first) ∙ sym (found c.args.from r) ∙ ap (string_from c.args.from) c.rest.ensures

pub returns-in-None : goal.returns-in-None
returns-in-None c =
    let r = c.rest.result.now in
    let first = position_from_yields_List (λ c. eqb c 64) _ _ _ c.position.ensures.ran (YieldsList-from_slice r cc) (λ x b q k. search (rules, tests)) ∙ position_from-zero (λ c. eqb c 64) r in
    ap (spanned c.args.from) (sym c.in-None.is ∙ first) ∙ sym (found c.args.from r) ∙ ap (string_from c.args.from) c.rest.ensures
