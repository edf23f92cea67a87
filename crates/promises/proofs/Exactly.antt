-- Demand 3: a refusal 4 or 5 comes exactly when, before any other, the grammar's own count passes that limit: one law over the limit.
-- Assumes nothing.
use Prim.Native.Nat.{ℕ}
use mathlib.Core.Bool.{Bool, true, false}
use mathlib.Core.Path.{◌≡◌, refl, sym, ap, ◌∙◌}
use mathlib.Core.List.{List}
use Rattle.std.specs.Prelude.{Ok, Err}
use Rattle.node.specs.Cells.{nodes}
use Rattle.grammar.specs.Program.{Reply, refused, Out}
use Rattle.grammar.specs.Counts.{Node, Limit, depth, room, name, bare, fits}
use Rattle.grammar.proofs.Demands.{passed, settled-fits}
use Rattle.grammar.proofs.First.{settled-first, first-over}
use Rattle.reader.specs.Whole.{whole}
use Rattle.gates.specs.Gates.{gate}
use Rattle.farthingmoss.specs.Call.{refusal, demangled}
use Rattle.gates.proofs.Opens.{open-low}
use Rattle.promises.specs.Promises.{own, Blamed, Blames}
use Rattle.promises.proofs.Reading.{own-low, said, open-answers, is_read, demangled-open, refusal-read}
use Rattle.promises.proofs.Grammar.{said-refused}

-- where the first demand that passes is one of limit l the call is refused by that limit's name: 4 for depth, 5 for nodes
pub blames : {l : Limit} {f deepest : ℕ} {s t : List ℕ} {at : ℕ} → Blamed l f deepest s t at → (space : ℕ) → demangled f deepest s t space ≡ Err (refusal (name l) at)
blames {l} {f} {deepest} {s} {t} {at} w space =
    open-answers f deepest s t w.opens space
    ∙ ap (λ (o : Out ℕ (List Node)). said f s space o.reply o.state o.cells) (settled-first deepest (nodes t) (bare (own s)) w.first)
    ∙ ap (λ (x : Limit). Err (refusal (name x) w.demand.state.at)) w.of ∙ ap Err (ap (refusal (name l)) (sym w.place))

-- and no other call is
name-one : (l m : Limit) → ◌≡◌ {A = Reply ℕ} (refused (name l)) (refused (name m)) → l ≡ m
name-one depth depth e = refl
name-one depth room e = cc
name-one room depth e = cc
name-one room room e = refl

name-passed : (l : Limit) → passed {A = ℕ} (refused (name l)) ≡ true
name-passed depth = refl
name-passed room = refl

-- so some demand passed its limit, and the first that did is its cause
pub blamed : {l : Limit} {at : ℕ} (f deepest : ℕ) (s t : List ℕ) (space : ℕ) → demangled f deepest s t space ≡ Err (refusal (name l) at) → Blamed l f deepest s t at
blamed {l} {at} f deepest s t space e = go (fits deepest (nodes t) (own s).cells.asked) refl
  where
    opens : gate f deepest s ≡ Ok tt
    opens = demangled-open f deepest s t space (ap is_read e ∙ refusal-read (name l) at)

    said-so : ((whole s deepest t).reply ≡ refused (name l)) × (at ≡ (whole s deepest t).state.at)
    said-so = said-refused f s space (whole s deepest t).state (whole s deepest t).cells (name l) (whole s deepest t).reply at (sym (open-answers f deepest s t opens space) ∙ e)

    go : (b : Bool) → fits deepest (nodes t) (own s).cells.asked ≡ b → Blamed l f deepest s t at
    go true h = absurd (own-low s deepest (nodes t) (open-low f deepest s opens) h (ap (passed {A = ℕ}) (ap (λ (o : Out ℕ (List Node)). o.reply) (sym (settled-fits deepest (nodes t) (own s).cells.asked (bare (own s)) h)) ∙ said-so.0) ∙ name-passed l))
    go false h =
        let (d, w) = first-over deepest (nodes t) (own s).cells.asked h in
        let z = settled-first deepest (nodes t) (bare (own s)) w in
        record {
          opens = opens;
          demand = d;
          first = w;
          of = name-one d.limit l (ap (λ (o : Out ℕ (List Node)). o.reply) (sym z) ∙ said-so.0);
          place = said-so.1 ∙ ap (λ (o : Out ℕ (List Node)). o.state.at) z;
        }

pub blames-exactly : Blames
blames-exactly l f deepest s t space at = (blamed f deepest s t space, (λ w. blames w space))
