-- Ordered choice among spellings: how much it takes, and what it answers. Optional letters one behind another.
-- Assumes nothing.
use Prim.Native.Nat.{ℕ, ◌+◌, ◌≤◌}
use Prim.Native.String.{String}
use mathlib.Core.Path.{◌≡◌, refl}
use mathlib.Core.Bool.{Bool, true, false}
use mathlib.Core.List.{List, [], ◌∷◌}
use native.Mathlib.Omega.{arith}
use lib.ListN.{length, drop, length-drop}
use lib.Seq.{drop-drop}
use lib.Dec.{eqb}
use Rattle.scan.specs.Bytes.{pick, bytes, starts, spelled, up_to}
use Rattle.letters.specs.Classes.{class, ◌then◌, optional, ref_qualifiers, ref_qualifier, qualifiers, read_qualifier}
use Rattle.letters.specs.declared.Class.{Class}

-- a run of n `get`s takes n bytes where they are there
pub up_to-one : (c : ℕ) (r : List ℕ) → up_to 1 (c ∷ r) ≡ 1
up_to-one c r = omega arith

pub up_to-two : (a b : ℕ) (r : List ℕ) → up_to 2 (a ∷ b ∷ r) ≡ 2
up_to-two a b r = omega arith

never : {A : Type 0} → ◌≡◌ {A = Bool} false true → A
never e = let z : ◌≡◌ {A = ℕ} 0 1 = cc in absurd (omega arith)

-- of a choice holds what holds of each side where its side is chosen
pub either : {A : Type 0} (P : A → Type 0) (b : Bool) (x y : A) → (b ≡ true → P x) → (b ≡ false → P y) → P (pick b x y)
either P true x y f g = f refl
either P false x y f g = g refl

both : (p q : Bool) → pick p q false ≡ true → q ≡ true
both true q e = e
both false q e = never e

-- a literal that stands here is no longer than what remains
pub starts-fits : (literal r : List ℕ) → starts literal r ≡ true → length literal ≤ length r
starts-fits [] r e = omega arith
starts-fits (b ∷ bs) [] e = never e
starts-fits (b ∷ bs) (c ∷ r) e = omega (arith, starts-fits bs r (both (eqb c b) (starts bs r) e))

-- what the spellings take is there, if what is taken otherwise is
pub spelled-fits :
    {X A : Type 0} (make : X → ℕ → A) (taken : A → ℕ) → ((v : X) (n : ℕ) → taken (make v n) ≡ n)
    → (table : List (String × X)) (other : A) (r : List ℕ) → taken other ≤ length r → taken (spelled make table other r) ≤ length r
spelled-fits make taken says [] other r h = h
spelled-fits make taken says (t ∷ ts) other r h =
    either (λ a. taken a ≤ length r) (starts (bytes t.0) r) _ _
    (λ e. rw (says t.1 (length (bytes t.0))) (starts-fits (bytes t.0) r e))
    (λ e. spelled-fits make taken says ts other r h)

-- the bits of letters that may be missing: no more than all of the table's together
abbrev pub total : List (String × ℕ) → ℕ
total [] = 0
total ((t, v) ∷ ts) = v + total ts

pub class-bits : (table : List (String × ℕ)) (r : List ℕ) → (spelled class table (class 0 0) r).bits ≤ total table
class-bits [] r = omega arith
class-bits (t ∷ ts) r =
    either (λ (a : Class). a.bits ≤ t.1 + total ts) (starts (bytes t.0) r) _ _ (λ e. omega arith) (λ e. omega (arith, class-bits ts r))

pub class-fits : (table : List (String × ℕ)) (r : List ℕ) → (spelled class table (class 0 0) r).taken ≤ length r
class-fits table r = spelled-fits class (λ (a : Class). a.taken) (λ v n. refl) table (class 0 0) r (omega arith)

pub optional-bits : (letter bits : ℕ) (r : List ℕ) → (optional letter bits r).bits ≤ bits
optional-bits letter bits r = either (λ (a : Class). a.bits ≤ bits) (starts (letter ∷ []) r) _ _ (λ e. omega arith) (λ e. omega arith)

pub optional-fits : (letter bits : ℕ) (r : List ℕ) → (optional letter bits r).taken ≤ length r
optional-fits letter bits r =
    either (λ (a : Class). a.taken ≤ length r) (starts (letter ∷ []) r) _ _ (λ e. starts-fits (letter ∷ []) r e) (λ e. omega arith)

-- readers of letters that may be missing: they take what is there, and their bits have a bound
pub record Sized (f : List ℕ → Class) (most : ℕ) : Type 0 where
  pub fits : (r : List ℕ) → (f r).taken ≤ length r
  pub bound : (r : List ℕ) → (f r).bits ≤ most

pub sized-optional : (letter bits : ℕ) → Sized (optional letter bits) bits
sized-optional letter bits = record { fits = optional-fits letter bits; bound = optional-bits letter bits }

pub sized-class : (table : List (String × ℕ)) → Sized (spelled class table (class 0 0)) (total table)
sized-class table = record { fits = class-fits table; bound = class-bits table }

pub sized-reference : Sized ref_qualifier 384
sized-reference = sized-class ref_qualifiers

pub sized-qualifier : Sized read_qualifier 12
unfolding read_qualifier
sized-qualifier = sized-class qualifiers

module _ {f : List ℕ → Class} {most : ℕ} (sized : Sized f most) (s : List ℕ) (at : ℕ) (x : Class) (says : x ≡ f (drop at s)) where
  pub stays : at ≤ length s → at + x.taken ≤ length s
  stays h = rw says (omega (arith, sized.fits (drop at s), length-drop at s))

  pub below : x.bits ≤ most
  below = rw says (sized.bound (drop at s))

-- letters, and letters looked for behind them
pub behind :
    (f g : List ℕ → Class) (s : List ℕ) (at next : ℕ) (x y : Class) → next ≡ at + x.taken → x ≡ f (drop at s) → y ≡ g (drop next s)
    → class (x.bits + y.bits) (x.taken + y.taken) ≡ (f then g) (drop at s)
behind f g s at next x y p e d = rw (d, p, ← drop-drop x.taken at s, e)

pub same_class : {a b m n : ℕ} → a ≡ b → m ≡ n → class a m ≡ class b n
same_class p q = cc
