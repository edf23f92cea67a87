-- What `below` says at a reference to a node below, and at any other. Assumes nothing.
use Prim.Native.Nat.{ℕ, zero, suc, ◌+◌, ◌<◌}
use mathlib.Core.Path.{◌≡◌, refl}
use native.Mathlib.Omega.{arith}
use native.Mathlib.Decide.{ℕ_discrete}
use borrow.Author.Tests.{eq-eqb, ne_eqb}
use Rattle.meaning.specs.Below.{below}

module _ {X : Type 0} (B : (ℕ → X) → ℕ → X) (d : X) where
  pub below_none : (k : ℕ) → below B d k 0 ≡ d
  unfolding below
  below_none zero = refl
  below_none (suc k) = rw (ne_eqb 0 (suc k) (λ e. omega arith)) (below_none k)

  pub below-past : (k r : ℕ) → k < r → below B d k r ≡ d
  unfolding below
  below-past zero r h = refl
  below-past (suc k) r h = rw (ne_eqb r (suc k) (λ e. omega arith)) (below-past k r (omega arith))

  pub below_at : (k n : ℕ) → n < k → below B d k (n + 1) ≡ B (below B d n) n
  unfolding below
  below_at zero n h = absurd (omega arith)
  below_at (suc k) n h = pick (ℕ_discrete (n + 1) (suc k)) (below_at k n)
    where
      pick : Dec (n + 1 ≡ suc k) → (n < k → below B d k (n + 1) ≡ B (below B d n) n) → below B d (suc k) (n + 1) ≡ B (below B d n) n
      pick (yes e) f = let q : n ≡ k = omega arith in rw (eq-eqb (n + 1) (suc k) e, q)
      pick (no ne) f = rw (ne_eqb (n + 1) (suc k) ne) (f (omega (arith, ne)))
