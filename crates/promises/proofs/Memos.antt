-- Templates, digits and lists, of every reading of the grammar. Assumes nothing.
use Prim.Native.Nat.{ℕ}
use mathlib.Core.List.{List}
use Rattle.grammar.specs.Program.{Part, Shut, Same, run}
use Rattle.grammar.specs.Grammar.{Tag, Ans}
use Rattle.grammar.proofs.Memos.{hands-back, digit-refers, digit-unqualified, bad-unqualified, digit-nested, bad-nested, digit-type, bad-type, digit-scope, bad-scope, digit-params, bad-params}
use Rattle.grammar.proofs.Turns.{Lawful, table-lawful, nodes-lawful, asking-lawful, more-turns}
use Rattle.promises.specs.Promises.{Said, OfEachReading, HandsBack, Digits, EnoughTurns, TemplatesHandBack, DigitsRecall, ListsEnd}

-- what is true of every lawful reading is true of the three
pub of-each : (P : Said) → ((T : Type 0) (s : List ℕ) (same : Same T) (shut : Shut T) (rec : Part Tag Ans T) → Lawful s shut rec → P T s same shut rec) → OfEachReading P
of-each P f s = ((λ limit room d. f _ s _ _ _ (table-lawful s limit room d)), (λ same limit room d. f _ s _ _ _ (nodes-lawful s same limit room d)), (λ same d. f _ s _ _ _ (asking-lawful s same d)))

digits : {T : Type 0} (s : List ℕ) (same : Same T) (shut : Shut T) (rec : Part Tag Ans T) → Digits T s same shut rec
unfolding run
digits s same shut rec = record {
  unqualified = λ function st t h. ((λ l. digit-unqualified s same shut rec st t h l function), (λ l. bad-unqualified s same shut rec st t h l function));
  nested = λ st t h. (digit-nested s same shut rec st t h, bad-nested s same shut rec st t h);
  type = λ sc st t h. let e = digit-refers s st.at h in (digit-type s same shut rec st t sc _ 1 e, bad-type s same shut rec st t sc _ 1 e);
  spelled = λ sc i n st t e. (digit-type s same shut rec st t sc i n e, bad-type s same shut rec st t sc i n e);
  scope = λ turns last st t h. ((λ l. digit-scope s same shut rec st t h l turns last), (λ l. bad-scope s same shut rec st t h l turns last));
  params = λ turns last st t h. ((λ l. digit-params s same shut rec st t h l turns last), (λ l. bad-params s same shut rec st t h l turns last));
}

pub templates-hand-back : TemplatesHandBack
templates-hand-back = of-each HandsBack (λ T s same shut rec lawful. hands-back s same shut rec lawful.steady)

pub digits-recall : DigitsRecall
digits-recall = of-each Digits (λ T s same shut rec lawful. digits s same shut rec)

pub lists-end : ListsEnd
lists-end = of-each EnoughTurns (λ T s same shut rec lawful. ((λ k last st t. (more-turns s same shut rec lawful k last st t).0), (λ k last st t. (more-turns s same shut rec lawful k last st t).1)))
