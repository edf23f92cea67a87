-- What stands at a place of the symbol ends in it: a literal, a digit. Assumes nothing.
use Prim.Native.Nat.{ℕ, ◌+◌, ◌≤◌, ◌<◌}
use mathlib.Core.Path.{◌≡◌}
use mathlib.Core.Bool.{true}
use mathlib.Core.List.{List}
use native.Mathlib.Nat.{lt_of_not-le}
use native.Mathlib.Omega.{arith}
use lib.ListN.{length, drop, length-drop}
use Rattle.scan.specs.Bytes.{starts}
use Rattle.scan.specs.Cursor.{read_digit}
use Rattle.std.specs.Prelude.{Some, None}
use Rattle.scan.proofs.Laws.{past}
use Rattle.letters.proofs.Spelled.{starts-fits}

-- a literal of no bytes stands past the end too
pub starts-at : (literal s : List ℕ) (at : ℕ) → 0 < length literal → starts literal (drop at s) ≡ true → at + length literal ≤ length s
starts-at literal s at h e = omega (arith, starts-fits literal (drop at s) e, length-drop at s)

nothing-past : (s : List ℕ) (at : ℕ) → length s ≤ at → read_digit (drop at s) ≡ None
unfolding read_digit
nothing-past s at h = rw (past s at h)

pub digit_at : (s : List ℕ) (at : ℕ) {d : ℕ} → read_digit (drop at s) ≡ Some d → at < length s
digit_at s at e =
    lt_of_not-le (λ h. let p : read_digit (drop at s) ≡ None = nothing-past s at h in let z : ◌≡◌ {A = ℕ} 0 1 = cc in omega arith)
