-- Assumes nothing.
use Prim.Native.Nat.{ℕ, zero, suc, ◌<◌}
use mathlib.Core.Bool.{Bool, true, false}
use mathlib.Core.Path.{◌≡◌, refl, sym, ◌∙◌, ap}
use mathlib.Core.List.{List}
use native.Mathlib.Omega.{arith}
use borrow.Author.Rules.{rules}
use borrow.Author.Tests.{tests}
use lib.ListN.{length, get_or}
use Rattle.std.specs.Bool.{MatchBool}
use Rattle.std.specs.List.{range_with_len, AllWithin, HoldsAt}
use Rattle.std.proofs.lemmas.Iterator.{cases_from_all, YieldsList-from_range}
use Rattle.std.proofs.lemmas.List.FromFn.{length-range_with_len, get_or-range_with_len}
use Rattle.form.specs.Form.{node_ok, well_formed}
use Rattle.form.proofs.Formed.{formed-not}
use Rattle.form.proofs.is_well_formed.Goals as goal

all_formed : (t : List ℕ) (len k : ℕ) → ((n : ℕ) → n < k → node_ok t len n ≡ true) → well_formed t len k ≡ true
unfolding well_formed
all_formed t len zero h = refl
all_formed t len (suc k) h = rw (all_formed t len k (λ n b. h n (omega arith))) (h k (omega arith))

numbered : (k n : ℕ) → n < k → get_or (range_with_len 0 k) n 0 ≡ n
numbered k n b = omega (arith, get_or-range_with_len 0 k n 0 b)

decided : (t : List ℕ) (len k : ℕ) (r : Bool) → MatchBool r (AllWithin (λ n. node_ok t len n ≡ true) (range_with_len 0 k) 0 (length (range_with_len 0 k))) ((j : ℕ) × (j < length (range_with_len 0 k)) × HoldsAt (λ n. node_ok t len n ≡ false) (range_with_len 0 k) j) → r ≡ well_formed t len k
decided t len k true h = sym (all_formed t len k (λ n b. rw (numbered k n b) at (h n 0 (omega arith) (omega (arith, length-range_with_len 0 k)))))
decided t len k false h =
    let b : h.0 < k = omega (arith, h.1, length-range_with_len 0 k) in
    sym (formed-not t len k h.0 b (rw (numbered k h.0 b) at (h.2 0)))

pub returns : goal.returns
returns c =
    let t = c.args.table.now in
    decided t c.args.len c.room.result _
    (cases_from_all _ _ _ (λ n. node_ok t c.args.len n ≡ true) (λ n. node_ok t c.args.len n ≡ false) c.all.ensures.ran (YieldsList-from_range 0 c.room.result c.room.result refl (omega arith)) (λ x q k. search (rules, tests)) (λ x q k. search (rules, tests)))
    ∙ ap (well_formed t c.args.len) c.room.ensures
