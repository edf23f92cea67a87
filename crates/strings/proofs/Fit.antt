-- The characters of a string are bytes of what remains, also where they are refused. Assumes nothing.
use Prim.Native.Nat.{ℕ, zero, suc, ◌+◌, ◌≤◌}
use mathlib.Core.Path.{◌≡◌}
use mathlib.Core.List.{List, [], ◌∷◌}
use native.Mathlib.Omega.{arith}
use lib.ListN.{length, drop, length-drop}
use Rattle.scan.specs.Bytes.{is, is_digit, is_lower, is_upper}
use Rattle.strings.specs.Encoded.{character, escape, hex_pair, low_letter, is_nibble, is_plain, onward, characters}
use Rattle.scan.specs.Cursor.{Leaf, Span}
use Rattle.std.specs.Prelude.{Ok, Err}
use Rattle.scan.proofs.Fits.{Fits, pick-fits, more-fits}

abbrev pub SpanFits : ℕ → Span → Type 0
SpanFits most (Ok n) = n ≤ most
SpanFits most (Err n) = n ≤ most

more-span : (less most : ℕ) (x : Span) → less ≤ most → SpanFits less x → SpanFits most x
more-span less most (Ok n) h f = omega arith
more-span less most (Err n) h f = omega arith

-- characters: behind `?$` and a letter 3 bytes are taken already, and so on
low_fits : (high : ℕ) (r : List ℕ) → Fits (3 + length r) (low_letter high r)
unfolding low_letter
low_fits high [] = omega arith
low_fits high (c ∷ r) = pick-fits (3 + suc (length r)) (is_nibble c) (Ok (_, 4)) (Err 4) (omega arith) (omega arith)

pair_fits : (r : List ℕ) → Fits (2 + length r) (hex_pair r)
unfolding hex_pair
pair_fits [] = omega arith
pair_fits (c ∷ r) =
    pick-fits (2 + suc (length r)) (is_nibble c) (low_letter c r) (Err 3)
    (more-fits (3 + length r) (2 + suc (length r)) (low_letter c r) (omega arith) (low_fits c r)) (omega arith)

escape-fits : (r : List ℕ) → Fits (1 + length r) (escape r)
unfolding escape
escape-fits [] = omega arith
escape-fits (c ∷ r) =
    pick-fits (1 + suc (length r)) (is_upper c) (Ok (_, 2)) _ (omega arith)
    (pick-fits (1 + suc (length r)) (is_lower c) (Ok (_, 2)) _ (omega arith)
    (pick-fits (1 + suc (length r)) (is_digit c) (Ok (_, 2)) _ (omega arith)
    (pick-fits (1 + suc (length r)) (is "$" c) (hex_pair r) (Err 2)
    (more-fits (2 + length r) (1 + suc (length r)) (hex_pair r) (omega arith) (pair_fits r)) (omega arith))))

pub character-fits : (r : List ℕ) → Fits (length r) (character r)
unfolding character
character-fits [] = omega arith
character-fits (c ∷ r) =
    pick-fits (suc (length r)) (is_plain c) (Ok (c, 1)) _ (omega arith)
    (pick-fits (suc (length r)) (is "?" c) (escape r) (Err 1)
    (more-fits (1 + length r) (suc (length r)) (escape r) (omega arith) (escape-fits r)) (omega arith))

onward-fits :
    (left most : ℕ) (x : Leaf) (f g : ℕ → Span) → Fits left x
    → ((t : ℕ) → t ≤ left → SpanFits most (f t)) → ((t : ℕ) → t ≤ left → SpanFits most (g t)) → SpanFits most (onward x f g)
onward-fits left most (Ok (v, t)) f g h p q = p t h
onward-fits left most (Err t) f g h p q = q t h

pub characters-fits : (k n : ℕ) (r : List ℕ) → SpanFits (n + length r) (characters k n r)
unfolding characters
characters-fits zero n r = omega arith
characters-fits (suc k) n r =
    onward-fits (length r) (n + length r) (character r) (λ t. characters k (n + t) (drop t r)) (λ t. Err (n + t)) (character-fits r)
    (λ t h. more-span (n + t + length (drop t r)) (n + length r) (characters k (n + t) (drop t r)) (omega (arith, length-drop t r))
    (characters-fits k (n + t) (drop t r)))
    (λ t h. omega arith)

module _ (k : ℕ) (s : List ℕ) (at : ℕ) where
  pub takes-stay : {n : ℕ} → at ≤ length s → characters k 0 (drop at s) ≡ Ok n → at + n ≤ length s
  takes-stay h e = omega (arith, length-drop at s, rw e at (characters-fits k 0 (drop at s)))

  pub refused-stay : {n : ℕ} → at ≤ length s → characters k 0 (drop at s) ≡ Err n → at + n ≤ length s
  refused-stay h e = omega (arith, length-drop at s, rw e at (characters-fits k 0 (drop at s)))
