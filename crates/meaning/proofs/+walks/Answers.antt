-- The functions of this cycle of calls meet their contracts.
-- Assumes nothing.
use mathlib.Core.Path.{◌∙◌, sym, ap₂, refl}
use native.Mathlib.Omega.{arith}
use Rattle.meaning.specs.Tree.{eq_tree}
use Rattle.meaning.proofs.Trees.{true-false, tree-same, tree-other}
use Rattle.meaning.proofs.Compare.{same_place, not-both, at_same, not-rest, go_on, and-all, rest-not-own, rest-not-second}
use Rattle.meaning.proofs.Union.{links-fall, note-tells}
use Rattle.meaning.proofs.+walks.Goals as goal
use Rattle.meaning.proofs.+walks.Goals.{same_but_first-then-same_own, same_but_first-else-same_own, walk-then-x-eq0-via-then-x-eq0, walk-then-x-eq0-via-else-x-eq0+then-y-eq0, walk-then-x-eq0-via-else-x-eq0+else-y-eq0+then-noted}

pub second-returns-then-met : goal.second-returns-then-met
second-returns-then-met t c =
    (c.if-met.true ∙ sym (sym (at_same _ _ c.kids-r.ensures.first.0 c.kids-r.ensures.second.0) ∙ (tree-same _ _).1 (c.met.ensures.0 c.if-met.true)), c.met.ensures.1)

pub third-returns-then-r-q : goal.third-returns-then-r-q
third-returns-then-r-q t c =
    (sym (sym (at_same _ _ c.kids-r.ensures.first.0 c.kids-r.ensures.second.0) ∙ same_place _ _ _ _ c.if-r-q.true), c.requires.links)

pub same_but_first-returns-then-second : goal.same_but_first-returns-then-second
same_but_first-returns-then-second t c = (
  elim c.if-same_own.branch [
    | same_but_first-then-same_own w ↦ and-all _ _ _ (sym c.same_own.ensures ∙ w.if-same_own.true) (sym w.second.ensures.0 ∙ sym w.value-is ∙ c.if-second.true) c.third.ensures.0
    | same_but_first-else-same_own w ↦ true-false (sym c.if-second.true ∙ w.value-is ∙ w.if-same_own.false)
  ],
  c.third.ensures.1,
)

pub same_but_first-returns-else-second : goal.same_but_first-returns-else-second
same_but_first-returns-else-second t c = elim c.if-same_own.branch [
  | same_but_first-then-same_own w ↦ (c.if-second.false ∙ rest-not-second _ _ _ _ (sym w.second.ensures.0 ∙ sym w.value-is ∙ c.if-second.false), rw w.links-is w.second.ensures.1)
  | same_but_first-else-same_own w ↦ (c.if-second.false ∙ rest-not-own _ _ _ _ (sym c.same_own.ensures ∙ w.if-same_own.false), rw w.links-is c.requires.links)
]

pub linked-find-x-requires : goal.linked-find-x-requires
linked-find-x-requires t c = links-fall c.requires.links

pub linked-find-y-requires : goal.linked-find-y-requires
linked-find-y-requires t c = links-fall (c.find-x.ensures.way.kept _ c.requires.links)

pub linked-returns-then-x-y : goal.linked-returns-then-x-y
linked-returns-then-x-y t c =
    let on = c.find-x.ensures.way.kept _ c.requires.links in
    (sym (ap₂ eq_tree (sym (c.find-x.ensures.way.same _ c.requires.links)) (sym (c.find-y.ensures.way.same _ on)) ∙ same_place _ _ _ _ c.if-x-y.true), c.find-y.ensures.way.kept _ on)

pub linked-returns-then-x-eq0 : goal.linked-returns-then-x-eq0
linked-returns-then-x-eq0 t c =
    let on = c.find-x.ensures.way.kept _ c.requires.links in
    (sym (ap₂ eq_tree (sym (c.find-x.ensures.way.same _ c.requires.links)) (sym (c.find-y.ensures.way.same _ on)) ∙ not-both _ _ _ _ (λ a b. omega (arith, c.then-x-eq0.either)) c.if-x-y.false), c.find-y.ensures.way.kept _ on)

pub linked-walk-requires : goal.linked-walk-requires
linked-walk-requires t c = (
  omega (arith, c.decreases, c.find-x.ensures.way.low),
  ((omega (arith, c.requires.held, c.find-x.ensures.way.low), omega (arith, c.requires.held, c.find-y.ensures.way.low)), c.find-y.ensures.way.kept _ (c.find-x.ensures.way.kept _ c.requires.links)),
)

pub linked-join-requires-clause-same : goal.linked-join-requires-clause-same
linked-join-requires-clause-same t c = (tree-same _ _).0 (sym c.walk.ensures.0 ∙ c.if-walk.true)

pub linked-returns-then-walk : goal.linked-returns-then-walk
linked-returns-then-walk t c =
    let on = c.find-x.ensures.way.kept _ c.requires.links in
    (sym (ap₂ eq_tree (sym (c.find-x.ensures.way.same _ c.requires.links)) (sym (c.find-y.ensures.way.same _ on)) ∙ sym c.walk.ensures.0 ∙ c.if-walk.true), c.join.ensures)

pub linked-returns : goal.linked-returns
linked-returns t c =
    let on = c.find-x.ensures.way.kept _ c.requires.links in
    (sym (ap₂ eq_tree (sym (c.find-x.ensures.way.same _ c.requires.links)) (sym (c.find-y.ensures.way.same _ on)) ∙ sym c.walk.ensures.0 ∙ c.if-walk.false), c.note.ensures.holds _ c.walk.ensures.1 ((tree-other _ _).0 (sym c.walk.ensures.0 ∙ c.if-walk.false)))

pub walk-noted-requires : goal.walk-noted-requires
walk-noted-requires t c = (omega (arith, c.if-x-eq0.false), omega (arith, c.if-y-eq0.false), links-fall c.loop-x.invariant.links)

pub walk-returns-then-x-eq0 : goal.walk-returns-then-x-eq0
walk-returns-then-x-eq0 t c = (
  elim c.then-x-eq0.branch [
    | walk-then-x-eq0-via-then-x-eq0 w ↦ sym (c.loop-x.invariant.same ∙ not-both _ _ _ _ (λ a b. omega (arith, w.if-x-eq0.true)) c.loop-x-test.true)
    | walk-then-x-eq0-via-else-x-eq0+then-y-eq0 w ↦ sym (c.loop-x.invariant.same ∙ not-both _ _ _ _ (λ a b. omega (arith, w.if-y-eq0.true)) c.loop-x-test.true)
    | walk-then-x-eq0-via-else-x-eq0+else-y-eq0+then-noted w ↦ sym (c.loop-x.invariant.same ∙ (tree-other _ _).1 (note-tells _ _ _ (omega (arith, w.if-x-eq0.false)) _ c.loop-x.invariant.links (sym w.noted.ensures ∙ w.if-noted.true)))
  ],
  c.loop-x.invariant.links,
)

pub walk-returns-then-not-same_but_first : goal.walk-returns-then-not-same_but_first
walk-returns-then-not-same_but_first t c =
    (sym (c.loop-x.invariant.same ∙ not-rest _ _ (omega (arith, c.if-x-eq0.false)) (omega (arith, c.if-y-eq0.false)) refl refl refl c.same_but_first.ensures.0 c.if-not-same_but_first.true), c.same_but_first.ensures.1)

pub walk-returns-then-left-eq0 : goal.walk-returns-then-left-eq0
walk-returns-then-left-eq0 t c =
    (c.linked.ensures.0 ∙ sym (c.loop-x.invariant.same ∙ go_on _ _ (omega (arith, c.if-x-eq0.false)) (omega (arith, c.if-y-eq0.false)) refl c.kids-v.ensures.first.0 c.kids-v.ensures.second.0 c.same_but_first.ensures.0 c.if-not-same_but_first.false), c.linked.ensures.1)

pub walk-find-x-requires : goal.walk-find-x-requires
walk-find-x-requires t c = links-fall c.same_but_first.ensures.1

pub walk-find-y-requires : goal.walk-find-y-requires
walk-find-y-requires t c = links-fall (c.find-x.ensures.way.kept _ c.same_but_first.ensures.1)

pub walk-loop-x-preserved : goal.walk-loop-x-preserved
walk-loop-x-preserved t c =
    let on = c.find-x.ensures.way.kept _ c.same_but_first.ensures.1 in
    record {
      first_low = omega (arith, c.find-x.ensures.way.low, c.kids-v.ensures.first, c.loop-x.invariant);
      second_low = omega (arith, c.find-y.ensures.way.low, c.kids-v.ensures.second, c.loop-x.invariant);
      some_left = omega (arith, c.loop-x.invariant.some_left, c.if-left-eq0.false);
      links = c.find-y.ensures.way.kept _ on;
      same = c.loop-x.invariant.same ∙ go_on _ _ (omega (arith, c.if-x-eq0.false)) (omega (arith, c.if-y-eq0.false)) refl c.kids-v.ensures.first.0 c.kids-v.ensures.second.0 c.same_but_first.ensures.0 c.if-not-same_but_first.false
          ∙ ap₂ eq_tree (sym (c.find-x.ensures.way.same _ c.same_but_first.ensures.1)) (sym (c.find-y.ensures.way.same _ on));
    }

pub walk-returns : goal.walk-returns
walk-returns t c = (sym (c.loop-x.invariant.same ∙ same_place _ _ _ _ c.loop-x-test.false), c.loop-x.invariant.links)
