-- Steps of the loop over an encoded string's characters, and what stands before them. Assumes nothing.
use Prim.Native.Nat.{ℕ, zero, suc, ◌+◌, ◌-◌, ◌≤◌, ◌<◌}
use mathlib.Core.Path.{◌≡◌, refl}
use mathlib.Core.List.{List}
use native.Mathlib.Omega.{arith}
use lib.ListN.{length, drop}
use lib.Seq.{drop-drop}
use Rattle.scan.specs.Number.{read_number}
use Rattle.strings.specs.Encoded.{character, characters, kept, strung, read_encoded_string}
use Rattle.std.specs.Prelude.{Ok, Err}
use Rattle.scan.proofs.Fits.{number_fits, number-inside, value_stays, bad-stays}

pub characters-done : (k n : ℕ) (r : List ℕ) → k ≤ 0 → characters k n r ≡ Ok n
unfolding characters
characters-done zero n r h = refl
characters-done (suc k) n r h = absurd (omega arith)

-- the place goes on from i, of which the characters began at from
pub characters-more :
    (s : List ℕ) (from i k : ℕ) {v t : ℕ} → from ≤ i → 0 < k → character (drop i s) ≡ Ok (v, t)
    → characters k (i - from) (drop i s) ≡ characters (k - 1) (i + t - from) (drop (i + t) s)
unfolding characters
characters-more s from i zero l h e = absurd (omega arith)
characters-more s from i (suc k) {v} {t} l h e =
    let less : suc k - 1 ≡ k = omega arith in
    let sum : i - from + t ≡ i + t - from = omega arith in
    rw (e, less, drop-drop t i s, sum)

pub characters-bad : (k n : ℕ) (r : List ℕ) {t : ℕ} → 0 < k → character r ≡ Err t → characters k n r ≡ Err (n + t)
unfolding characters
characters-bad zero n r h e = absurd (omega arith)
characters-bad (suc k) n r h e = rw e

-- behind the length, of a bytes, a checksum of b bytes or none
module _ (s : List ℕ) (at : ℕ) {v a : ℕ} (first : read_number (drop at s) ≡ Ok (v, a)) where
  pub checksum-place : at + a ≤ length s
  checksum-place = value_stays read_number number_fits s at (number-inside s at first) first

  pub chars-place : {w b : ℕ} → read_number (drop (at + a) s) ≡ Ok (w, b) → at + a + b ≤ length s
  chars-place second = value_stays read_number number_fits s (at + a) checksum-place second

  pub refused-place : {b : ℕ} → read_number (drop (at + a) s) ≡ Err b → at + a + b ≤ length s
  refused-place second = bad-stays read_number number_fits s (at + a) checksum-place second

  pub encoded-chars :
      (width : ℕ) {w b : ℕ} → read_number (drop (at + a) s) ≡ Ok (w, b)
      → read_encoded_string width (drop at s) ≡ strung v (a + b) (characters (kept v width) 0 (drop (at + a + b) s))
  unfolding read_encoded_string
  encoded-chars width {w} {b} second =
      let sum : at + (a + b) ≡ at + a + b = omega arith in
      rw (first, drop-drop a at s, second, drop-drop (a + b) at s, sum)

  pub encoded-bad :
      (width : ℕ) {b : ℕ} → read_number (drop (at + a) s) ≡ Err b → read_encoded_string width (drop at s) ≡ Err (a + b)
  unfolding read_encoded_string
  encoded-bad width second = rw (first, drop-drop a at s, second)
