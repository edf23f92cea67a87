-- The hex digits of a name are bytes of what remains; the search for an `@` part by part. Assumes nothing.
use Prim.Native.Nat.{ℕ, zero, suc, ◌+◌, ◌-◌, ◌≤◌}
use mathlib.Core.Path.{◌≡◌, refl, sym, ap, ◌∙◌}
use mathlib.Core.Bool.{Bool, true, false}
use mathlib.Core.List.{List, [], ◌∷◌}
use native.Mathlib.Omega.{arith}
use Rattle.std.proofs.Common.{zero-add, add-zero}
use lib.ListN.{length, take, drop, length-drop}
use lib.Seq.{drop-drop}
use Rattle.scan.specs.Bytes.{pick, is, is_hex}
use Rattle.scan.specs.Name.{string_from, hex_digits_from, read_hex_digits}
use Rattle.scan.specs.Cursor.{Span}
use Rattle.std.specs.Prelude.{Option, Some, None, Ok, Err, cond, eqb, ◌||◌}
use Rattle.std.specs.List.{prefix_len, position_from, list_any}

step_fits : (b : Bool) (m n k : ℕ) → m ≤ n + 1 + k → pick b m n ≤ n + (1 + k)
step_fits true m n k h = omega arith
step_fits false m n k h = omega arith

from-fits : (n : ℕ) (r : List ℕ) → hex_digits_from n r ≤ n + length r
unfolding hex_digits_from
from-fits n [] = omega arith
from-fits n (c ∷ r) = omega (arith, step_fits (is_hex c) (hex_digits_from (n + 1) r) n (length r) (from-fits (n + 1) r))

pub hex-digits-fit : (r : List ℕ) → read_hex_digits r ≤ length r
hex-digits-fit r = omega (arith, from-fits 0 r)

-- the digits are those of the front, and an `@` is the first one
run_step : (b : Bool) (n m k : ℕ) → m ≡ n + 1 + k → pick b m n ≡ n + cond b (1 + k) 0
run_step true n m k e = omega arith
run_step false n m k e = omega arith

hex-run : (n : ℕ) (r : List ℕ) → n + prefix_len is_hex r ≡ hex_digits_from n r
unfolding hex_digits_from
hex-run n [] = omega arith
hex-run n (c ∷ r) = sym (run_step (is_hex c) n (hex_digits_from (n + 1) r) (prefix_len is_hex r) (sym (hex-run (n + 1) r)))

pub hex-digits : (r : List ℕ) → prefix_len is_hex r ≡ read_hex_digits r
hex-digits r = sym (zero-add (prefix_len is_hex r)) ∙ hex-run 0 r

abbrev pub spanned : ℕ → Option ℕ → Span
spanned from (Some n) = Ok (from + n + 1)
spanned from None = Err 0

found_step : (b : Bool) (n from : ℕ) (x : Span) (y : Option ℕ) → x ≡ spanned from y → pick b (Ok (from + n + 1)) x ≡ spanned from (cond b (Some n) y)
found_step true n from x y e = refl
found_step false n from x y e = e

found-from : (from n : ℕ) (r : List ℕ) → string_from (from + n) r ≡ spanned from (position_from (λ c. eqb c 64) n r)
unfolding string_from
found-from from n [] = refl
found-from from n (c ∷ r) =
    let sum : from + n + 1 ≡ from + (n + 1) = omega arith in
    found_step (eqb c 64) n from (string_from (from + n + 1) r) (position_from (λ c. eqb c 64) (n + 1) r) (ap (λ k. string_from k r) sum ∙ found-from from (n + 1) r)

pub found : (from : ℕ) (r : List ℕ) → string_from from r ≡ spanned from (position_from (λ c. eqb c 64) 0 r)
found from r = ap (λ k. string_from k r) (sym (add-zero from)) ∙ found-from from 0 r

-- an `@` among the first bytes is the first of all
near_step :
    (b : Bool) (k : ℕ) (x y : Span) {n : ℕ} → pick b (Ok k) x ≡ Ok n → (x ≡ Ok n → y ≡ Ok n)
    → pick b (Ok k) y ≡ Ok n
near_step true k x y e more = e
near_step false k x y e more = more e

pub near : (m n : ℕ) (r : List ℕ) {k : ℕ} → string_from n (take m r) ≡ Ok k → string_from n r ≡ Ok k
unfolding string_from
near zero n r e = cc
near (suc m) n [] e = e
near (suc m) n (c ∷ r) e = near_step (is "@" c) (n + 1) (string_from (n + 1) (take m r)) (string_from (n + 1) r) e (near m (n + 1) r)

-- bytes among which is none are passed
neither : (b more : Bool) → (b || more) ≡ false → (b ≡ false) × (more ≡ false)
neither true more e = (e, cc)
neither false more e = (refl, e)

skipped : (m n : ℕ) (r : List ℕ) → m ≤ length r → list_any (λ c. eqb c 64) (take m r) ≡ false → string_from n r ≡ string_from (n + m) (drop m r)
unfolding string_from
skipped zero n r h e = rw add-zero
skipped (suc m) n [] h e = absurd (omega arith)
skipped (suc m) n (c ∷ r) h e =
    let none = neither (eqb c 64) (list_any (λ c. eqb c 64) (take m r)) e in
    let sum : n + 1 + m ≡ n + suc m = omega arith in
    rw none.0 (skipped m (n + 1) r (omega arith) none.1 ∙ ap (λ k. string_from k (drop m r)) sum)

pub passed :
    (t : List ℕ) (i end : ℕ) → i ≤ end → end ≤ length t → list_any (λ c. eqb c 64) (take (end - i) (drop i t)) ≡ false
    → string_from i (drop i t) ≡ string_from end (drop end t)
passed t i end h k none =
    let sum : i + (end - i) ≡ end = omega arith in
    skipped (end - i) i (drop i t) (omega (arith, length-drop i t)) none ∙ rw (drop-drop (end - i) i t, sum)
