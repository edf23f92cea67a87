-- Assumes nothing.
use native.Mathlib.Omega.{arith}
use mathlib.Core.Path.{◌≡◌, ◌∙◌}
use Prim.Native.Nat.{◌-◌, ◌≤◌, ◌<◌}
use lib.ListN.{length, get_or}
use Rattle.std.proofs.lemmas.Bool.Decides.{nat_tests}
use Rattle.meaning.proofs.Union.{some-is, none-is, link-past, link-is, link-not}
use Rattle.meaning.proofs.links.next.Goals as goal
use Rattle.meaning.proofs.links.next.Goals.{else-v-gt0-via-then-v-gt0+else-v-lt-NOTES, else-v-gt0-via-else-v-gt0}

pub returns-in_err-get : goal.returns-in_err-get
returns-in_err-get c =
    let past : length c.args.links.now < c.args.p = grind (arith, nat_tests, c.in_ok-checked_sub.ensures, c.in_err-get.ensures.lookup) in
    c.from_residual-in_err-get.ensures ∙ none-is (link-past c.args.links.now c.args.p past)

pub returns-then-v-lt-NOTES : goal.returns-then-v-lt-NOTES
returns-then-v-lt-NOTES c =
    let here : 1 ≤ c.args.p = grind (arith, nat_tests, c.in_ok-checked_sub.ensures) in
    let v : c.from-v.result ≡ get_or c.args.links.now (c.args.p - 1) 0 = grind (arith, nat_tests, c.in_ok-get.ensures.lookup, c.in_ok-checked_sub.ensures) in
    some-is (v ∙ link-is _ _ here (omega (arith, v, c.if-v-lt-NOTES.true))) (omega (arith, c.if-v-gt0.true))

pub returns-else-v-gt0 : goal.returns-else-v-gt0
returns-else-v-gt0 c =
    let here : 1 ≤ c.args.p = grind (arith, nat_tests, c.in_ok-checked_sub.ensures) in
    let v : c.from-v.result ≡ get_or c.args.links.now (c.args.p - 1) 0 = grind (arith, nat_tests, c.in_ok-get.ensures.lookup, c.in_ok-checked_sub.ensures) in
    none-is (elim c.else-v-gt0.branch [
      | else-v-gt0-via-then-v-gt0+else-v-lt-NOTES w ↦ link-not _ _ here (omega (arith, v, w.if-v-lt-NOTES.false))
      | else-v-gt0-via-else-v-gt0 w ↦ (let z : 0 ≡ get_or c.args.links.now (c.args.p - 1) 0 = omega (arith, v, w.if-v-gt0.false) in z ∙ link-is _ _ here (omega (arith, z)))
    ])
