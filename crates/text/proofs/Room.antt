-- Where a whole text ends in a buffer of any length, written from its beginning, before which there is no byte (256).
-- Assumes nothing.
use Rattle.std.proofs.Common.{◌≡◌, ℕ, ◌+◌, ◌<◌, ◌≤◌, ◌↔◌, List, length, ◌∙◌, arith}
use native.Mathlib.Decide.{dec_le}
use Rattle.text.specs.Emit.{Text, last_of, last_at, Wrote}
use Rattle.text.proofs.Seq.{place-fits, place-over}

module _ {T : Text} {b b' : List ℕ} {o : ℕ} (w : Wrote T b 0 b' o) where
  fits : length (T 256) ≤ length b → o ≡ length (T 256)
  unfolding last_at last_of
  fits h = w.out ∙ place-fits (length b) 0 (length (T 256)) (omega arith) ∙ omega arith

  spills : length b < length (T 256) → o ≡ length b + 1
  unfolding last_at last_of
  spills h = w.out ∙ place-over (length b) 0 (length (T 256)) (omega arith) (omega arith)

  room : o ≤ length b → length (T 256) ≤ length b
  room h = by (dec_le (length (T 256)) (length b))
    where
      by : Dec (length (T 256) ≤ length b) → length (T 256) ≤ length b
      by (yes k) = k
      by (no k) = absurd (omega (arith, k, spills (omega (arith, k))))

  -- the exit says whether the text fits; where it does, it is as long as the text
  pub exact : ((o ≤ length b) ↔ (length (T 256) ≤ length b)) × (o ≤ length b → o ≡ length (T 256))
  exact = ((room, λ h. omega (arith, fits h)), λ h. fits (room h))
