-- What remains at a place of the symbol, and decisions on a byte: two functions agree on a range of bytes if they agree on each of its bytes, which antt computes.
-- Assumes nothing.
use Prim.Native.Nat.{ℕ, zero, suc, ◌+◌, ◌-◌, ◌≤◌, ◌<◌}
use mathlib.Core.Path.{◌≡◌, refl, sym, ap, ◌∙◌}
use mathlib.Core.Bool.{Bool, true, false}
use mathlib.Core.List.{List, [], ◌∷◌, map}
use native.Mathlib.Numerals.{add-one}
use native.Mathlib.Omega.{arith}
use native.Mathlib.Nat.{add-zero, add-suc, suc-add, min-eq_left}
use lib.ListN.{length, get_or, take, drop, drop_of_length-le}
use lib.Seq.{drop-cons}
use lib.Dec.{eqb, leb}
use borrow.Author.Tests.{eq-eqb, ne_eqb, eqb-true, eqb-false, leb-true}
use mir.Val.{Fits}
use mir.Syntax.{w8, w32}
use Rattle.std.specs.Prelude.{Option, Some, Result, Err, ◌&&◌}
use Rattle.std.specs.Option.{option_copied, ok_or}
use Rattle.std.specs.Slice.{IsItemAt}
use Rattle.std.proofs.Common.{Bor}
use Rattle.std.specs.Prelude as std
use Rattle.std.specs.Cmp.Lexicographic.{pointwise}
use Rattle.scan.specs.Bytes.{pick, up_to, starts, is_digit}
use Rattle.scan.specs.Cursor.{get_byte}

-- what remains: a byte and the rest, or nothing
pub split : (s : List ℕ) (at : ℕ) → at < length s → drop at s ≡ get_or s at 0 ∷ drop (at + 1) s
split s at h = rw (add-one, drop-cons s at 0 h)

pub past : (s : List ℕ) (at : ℕ) → length s ≤ at → drop at s ≡ []
past s at h = drop_of_length-le s h

-- the byte at a place, or none, is the first of what remains
pub byte-at : (s : List ℕ) (at : ℕ) (r : Option (Bor ℕ)) → IsItemAt s at r → option_copied r ≡ get_byte (drop at s)
unfolding get_byte
byte-at s at (Some x) h = rw (split s at h.3.0) (ap Some (h.3.1 0))
byte-at s at std.None h = rw (past s at h.3)

pub got : (r : List ℕ) {c : ℕ} → get_byte r ≡ Some c → r ≡ c ∷ drop 1 r
unfolding get_byte
got [] e = cc
got (b ∷ r) {c} e = let same : b ≡ c = cc in ap (λ x. x ∷ r) same

pub ended : (r : List ℕ) → get_byte r ≡ std.None → r ≡ []
unfolding get_byte
ended [] e = refl
ended (b ∷ r) e = cc

-- what `?` hands on where no byte is left
pub refused-at : (o : Option ℕ) {k e : ℕ} → ◌≡◌ {A = Result ℕ ℕ} (Err e) (ok_or o k) → o ≡ std.None → e ≡ k
refused-at (Some x) e n = cc
refused-at std.None e n = cc

first-test : (a b : Bool) → pick a b false ≡ true → a ≡ true
first-test true b e = refl
first-test false b e = e

pub digit-low : (c : ℕ) → is_digit c ≡ true → 48 ≤ c
digit-low c e = leb-true 48 c (first-test (leb 48 c) (leb c 57) e)

-- a literal stands here where as many bytes are the literal's
eqb-swap : (a b : ℕ) (x : Bool) → eqb b a ≡ x → eqb a b ≡ x
eqb-swap a b true e = eq-eqb a b (sym (eqb-true b a e))
eqb-swap a b false e = ne_eqb a b (λ h. eqb-false b a e (sym h))

both : (a b more : Bool) → a ≡ b → pick a more false ≡ (b && more)
both true true more e = refl
both true false more e = cc
both false true more e = cc
both false false more e = refl

pub starts-same : (bs r : List ℕ) → pointwise eqb bs (take (length bs) r) ≡ starts bs r
starts-same [] r = refl
starts-same (b ∷ bs) [] = refl
starts-same (b ∷ bs) (c ∷ r) = ap (λ m. eqb b c && m) (starts-same bs r) ∙ sym (both (eqb c b) (eqb b c) (starts bs r) (eqb-swap c b (eqb b c) refl))

-- the n bytes from low on
abbrev pub range : ℕ → ℕ → List ℕ
range low zero = []
range low (suc n) = low ∷ range (suc low) n

head_of : {A : Type 0} {a b : A} {x y : List A} → ◌≡◌ {A = List A} (a ∷ x) (b ∷ y) → a ≡ b
head_of e = cc

tail_of : {A : Type 0} {a b : A} {x y : List A} → ◌≡◌ {A = List A} (a ∷ x) (b ∷ y) → x ≡ y
tail_of e = cc

agrees : {A : Type 0} (n low : ℕ) (f g : ℕ → A) → map f (range low n) ≡ map g (range low n) → (k : ℕ) → k < n → f (low + k) ≡ g (low + k)
agrees zero low f g e k h = absurd (omega arith)
agrees (suc n) low f g e zero h = rw add-zero (head_of e)
agrees (suc n) low f g e (suc k) h = rw (add-suc low k, ← suc-add low k) (agrees n (suc low) f g (tail_of e) k (omega arith))

pub on-range : {A : Type 0} (low n : ℕ) (f g : ℕ → A) → map f (range low n) ≡ map g (range low n) → (c : ℕ) → low ≤ c → c < low + n → f c ≡ g c
on-range low n f g e c l h =
    let sum : low + (c - low) ≡ c = omega arith in
    ap f (sym sum) ∙ agrees n low f g e (c - low) (omega arith) ∙ ap g sum

-- the byte is none of these: the last of them first, as the facts of a `match` stand
abbrev pub None : ℕ → List ℕ → Type 0
None c [] = Unit {0}
None c (k ∷ ks) = None c ks × (c ≡ k → ⊥)

abbrev pub among : List ℕ → ℕ → Bool
among [] c = false
among (k ∷ ks) c = pick (eqb c k) true (among ks c)

none-among : (ks : List ℕ) (c : ℕ) → None c ks → among ks c ≡ false
none-among [] c h = refl
none-among (k ∷ ks) c h = rw (ne_eqb c k h.1) (none-among ks c h.0)

-- the same where some bytes of the range are ruled out
pub off-keys :
    {A : Type 0} (keys : List ℕ) (low n : ℕ) (f g : ℕ → A)
    → map f (range low n) ≡ map (λ c. pick (among keys c) (f c) (g c)) (range low n)
    → (c : ℕ) → low ≤ c → c < low + n → None c keys → f c ≡ g c
off-keys keys low n f g e c l h off =
    on-range low n f (λ c. pick (among keys c) (f c) (g c)) e c l h ∙ ap (λ b. pick b (f c) (g c)) (none-among keys c off)

-- where n bytes are left, n are taken
pub full : (n : ℕ) (r : List ℕ) → n ≤ length r → up_to n r ≡ n
full n r h = min-eq_left h

-- a byte less something is a u32: for a `match` of so many keys that `omega` does not end
pub wide : (c low : ℕ) → Fits w8 c → Fits w32 (c - low)
wide c low h = omega arith
