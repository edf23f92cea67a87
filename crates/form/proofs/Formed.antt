-- What a well-formed table is known for. Assumes nothing.
use Prim.Native.Nat.{ℕ, zero, suc, ◌+◌, ◌≤◌, ◌<◌}
use mathlib.Core.Bool.{Bool, true, false, cond}
use mathlib.Core.Path.{◌≡◌, refl, sym, ap, ◌∙◌}
use mathlib.Core.List.{List, []}
use native.Mathlib.Numerals.{add-one}
use native.Mathlib.Decide.{ℕ_discrete}
use native.Mathlib.Omega.{arith}
use lib.ListN.{get_or-eq_default}
use Rattle.form.specs.Kinds.{shapes, shape_of, whole_shape}
use Rattle.form.specs.Form.{node_ok, well_formed}

true-false : {A : Type 0} → true ≡ false → A
true-false e = let z : ◌≡◌ {A = ℕ} 0 1 = cc in absurd (omega arith)

cond-left : (a b : Bool) → cond a b false ≡ true → a ≡ true
cond-left true b e = refl
cond-left false b e = e

cond-right : (a b : Bool) → cond a b false ≡ true → b ≡ true
cond-right true b e = e
cond-right false b e = true-false (sym e)

-- a kind that is not known has the shape of none
pub no-shape : (kind : ℕ) → 64 ≤ kind → whole_shape 0 ≡ whole_shape kind
unfolding whole_shape shape_of
no-shape kind h = rw (get_or-eq_default shapes [] h)

pub past : (k : ℕ) → 63 ≤ k → (k ≡ 63 → ⊥) → 64 ≤ k
past k h off = omega (arith, off)

pub formed-more : (t : List ℕ) (len k : ℕ) → well_formed t len k ≡ true → node_ok t len k ≡ true → well_formed t len (k + 1) ≡ true
unfolding well_formed
formed-more t len k e f = rw add-one (rw e f)

-- each node of a well-formed table
pub formed-node : (t : List ℕ) (len k n : ℕ) → well_formed t len k ≡ true → n < k → node_ok t len n ≡ true
unfolding well_formed
formed-node t len zero n e h = absurd (omega arith)
formed-node t len (suc k) n e h = pick (ℕ_discrete n k) (formed-node t len k n)
  where
    pick : Dec (n ≡ k) → (well_formed t len k ≡ true → n < k → node_ok t len n ≡ true) → node_ok t len n ≡ true
    pick (yes q) f = ap (node_ok t len) q ∙ cond-right (well_formed t len k) (node_ok t len k) e
    pick (no q) f = f (cond-left (well_formed t len k) (node_ok t len k) e) (omega (arith, q))

-- one node that is not well formed
pub formed-not : (t : List ℕ) (len k n : ℕ) → n < k → node_ok t len n ≡ false → well_formed t len k ≡ false
formed-not t len k n h e = pick (well_formed t len k) refl
  where
    pick : (b : Bool) → well_formed t len k ≡ b → well_formed t len k ≡ false
    pick true q = true-false (sym (formed-node t len k n q h) ∙ e)
    pick false q = q
