-- A writing from the beginning of the buffer: what it leaves, and what it answers. Assumes nothing.
use Prim.Native.Nat.{ℕ, ◌≤◌, ◌<◌}
use mathlib.Core.Path.{◌≡◌, ap, ◌∙◌}
use mathlib.Core.List.{List}
use native.Mathlib.Omega.{arith}
use lib.ListN.{length}
use Rattle.std.specs.Prelude.{None, Some}
use borrow.Author.Tests.{le-leb, lt-leb}
use Rattle.text.specs.Emit.{Text, Wrote, cut, last_at, last_of}
use Rattle.std.proofs.Common.{IsTrue, ◌↔◌, true, false, refl}
use Rattle.text.proofs.Cut.{length_cut}
use Rattle.text.proofs.Seq.{has_room}
use Rattle.text.proofs.Room.{exact}
use Rattle.writer.specs.Written.{written}

module _ {T : Text} {b b' : List ℕ} {o : ℕ} (w : Wrote T b 0 b' o) where
  pub ends-text : b' ≡ cut b (T 256)
  unfolding last_at last_of
  ends-text = w.buf

  kept : length b' ≡ length b
  kept = ap length w.buf ∙ length_cut _ _

  pub ends-cut : (IsTrue true ↔ (length b' < o)) → None ≡ written (length b) (T 256)
  unfolding written
  ends-cut e =
      let fits : length (T 256) ≤ length b → o ≤ length b = (exact w).0.1 in
      let past : length b' < o = e.0 refl in
      rw (lt-leb (length (T 256)) (length b) (grind (arith, kept)))

  pub ends-whole : (IsTrue false ↔ (length b' < o)) → Some o ≡ written (length b) (T 256)
  unfolding written
  ends-whole e =
      let h : o ≤ length b = omega (arith, has_room e, kept) in
      rw (le-leb (length (T 256)) (length b) ((exact w).0.0 h)) (ap Some ((exact w).1 h))
