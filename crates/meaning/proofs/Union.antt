-- The laws of links and notes. Assumes nothing.
use Prim.Native.Nat.{ℕ, zero, suc, ◌+◌, ◌-◌, ◌≤◌, ◌<◌}
use mathlib.Core.Bool.{true, false}
use mathlib.Core.Path.{◌≡◌, refl, sym, ap, ◌∙◌}
use mathlib.Core.List.{List}
use native.Mathlib.Decide.{ℕ_discrete, dec_le, dec_lt}
use native.Mathlib.Omega.{arith}
use lib.Dec.{eqb}
use lib.ListN.{length, get_or, set, replicate, length-replicate, get_or-replicate, get_or-eq_default}
use lib.Seq.{get_or-set_same, get_or-set_other, set_out}
use borrow.Author.Tests.{eqb-true, eq-eqb, ne_eqb, lt-ltb, le-ltb}
use Rattle.std.specs.Prelude.{Some, None}
use Rattle.meaning.specs.Tree.{Tree}
use Rattle.meaning.specs.Links.{held_of, link, link_of, some_link, note_of, Held, Links, Falls, Way, Joins, Parts}

-- what a number says
link-low : {v : ℕ} → v < 32768 → link v ≡ v
unfolding link
link-low {v} h = rw (lt-ltb v 32768 h)

link-high : {v : ℕ} → 32768 ≤ v → link v ≡ 0
unfolding link
link-high {v} h = rw (le-ltb v 32768 h)

held-zero : (l : List ℕ) (x : ℕ) → x ≡ 0 → held_of l x ≡ 0
unfolding held_of
held-zero l zero e = refl
held-zero l (suc x) e = absurd (omega (arith, e))

held-past : (l : List ℕ) (x : ℕ) → length l < x → held_of l x ≡ 0
unfolding held_of
held-past l zero h = refl
held-past l (suc x) h = get_or-eq_default l 0 (omega arith)

held_at : (l : List ℕ) (x : ℕ) → 1 ≤ x → held_of l x ≡ get_or l (x - 1) 0
unfolding held_of
held_at l zero h = absurd (omega arith)
held_at l (suc x) h = let e : suc x - 1 ≡ x = omega arith in rw e

-- the link of a reference, as the code reads it
pub link-past : (l : List ℕ) (x : ℕ) → length l < x → 0 ≡ link_of l x
unfolding link_of
link-past l x h = sym (ap link (held-past l x h) ∙ link-low (omega arith))

module _ (l : List ℕ) (x : ℕ) (h : 1 ≤ x) where
  pub link-is : get_or l (x - 1) 0 < 32768 → get_or l (x - 1) 0 ≡ link_of l x
  unfolding link_of
  link-is g = sym (ap link (held_at l x h) ∙ link-low g)

  pub link-not : 32768 ≤ get_or l (x - 1) 0 → 0 ≡ link_of l x
  unfolding link_of
  link-not g = sym (ap link (held_at l x h) ∙ link-high g)

pub some-is : {v w : ℕ} → v ≡ w → 1 ≤ v → Some v ≡ some_link w
some-is {v} {w} e h = rw (ne_eqb w 0 (λ z. omega (arith, e, z))) (ap (λ x. Some x) e)

pub none-is : {w : ℕ} → 0 ≡ w → None ≡ some_link w
none-is {w} e = rw (eq-eqb w 0 (sym e))

pub is-some : {w y : ℕ} → Some y ≡ some_link w → (y ≡ w) × (1 ≤ y)
is-some {w} {y} e = pick (ℕ_discrete w 0)
  where
    pick : Dec (w ≡ 0) → (y ≡ w) × (1 ≤ y)
    pick (yes z) = let f : Some y ≡ None = rw (eq-eqb w 0 z) at e in absurd (cc)
    pick (no z) = let f : Some y ≡ Some w = rw (ne_eqb w 0 z) at e in
        let g : y ≡ w = cc in
        (g, omega (arith, g, z))

pub is-none : {w : ℕ} → None ≡ some_link w → w ≡ 0
is-none {w} e = pick (ℕ_discrete w 0)
  where
    pick : Dec (w ≡ 0) → w ≡ 0
    pick (yes z) = z
    pick (no z) = let f : None ≡ Some w = rw (ne_eqb w 0 z) at e in absurd (cc)

-- a note, as the code reads it
module _ (l : List ℕ) (x y : ℕ) (hx : 1 ≤ x) where
  pub note-past : length l < y → false ≡ eqb (note_of l y) x
  unfolding note_of
  note-past h = sym (ne_eqb (held_of l y - 32768) x (λ z. omega (arith, held-past l y h, z)))

  module _ (hy : 1 ≤ y) where
    pub note-is : eqb (get_or l (y - 1) 0 - 32768) x ≡ eqb (note_of l y) x
    unfolding note_of
    note-is = ap (λ v. eqb (v - 32768) x) (sym (held_at l y hy))

  -- what is noted differs
  pub note-tells : (f : ℕ → Tree) → Links f l → eqb (note_of l y) x ≡ true → f x ≡ f y → ⊥
  unfolding note_of
  note-tells f k e p = let q = eqb-true _ _ e in (k.all y).apart (omega (arith, q)) (ap f q ∙ p)

-- where the links lead
pub links-fall : {f : ℕ → Tree} {l : List ℕ} → Links f l → Falls l
unfolding link_of
links-fall k x = ((k.all x).fits, (k.all x).low)

linked-same : {f : ℕ → Tree} {l : List ℕ} → Links f l → (x : ℕ) {y : ℕ} → y ≡ link_of l x → 1 ≤ y → f y ≡ f x
unfolding link_of
linked-same {f} k x e h = ap f e ∙ (k.all x).same (omega (arith, e))

-- one link further
pub way_next : {l k : List ℕ} {r p : ℕ} (y : ℕ) → Falls k → Way l k r p → y ≡ link_of k p → 1 ≤ y → Way l k r y
way_next {p = p} y fl w e h = record {
  low = omega (arith, (fl p).1, w.low, e);
  same = λ f ok. linked-same (w.kept f ok) p e h ∙ w.same f ok;
  kept = w.kept;
}

-- two links further, and p is linked past the first of them
pub way-past : {l k m : List ℕ} {r p y : ℕ} (z : ℕ) → Falls k → Way l k r p → y ≡ link_of k p → 1 ≤ y → z ≡ link_of k y → 1 ≤ z → Joins k m p z → Way l m r z
way-past {p = p} {y} z fl w e h g i j =
    let n = way_next z fl (way_next y fl w e h) g i in record {
      low = n.low;
      same = n.same;
      kept = λ f ok. j.holds f (w.kept f ok) (n.same f ok ∙ sym (w.same f ok));
    }

-- one number more
module _ (l : List ℕ) (x v : ℕ) (h : 1 ≤ x) where
  held-set : (y : ℕ) → y ≡ x → x ≤ length l → held_of (set l (x - 1) v) y ≡ v
  held-set y e b = ap (held_of (set l (x - 1) v)) e ∙ held_at (set l (x - 1) v) x h ∙ get_or-set_same l (x - 1) v 0 (omega arith)

  held-other : (y : ℕ) → (y ≡ x → ⊥) → held_of (set l (x - 1) v) y ≡ held_of l y
  unfolding held_of
  held-other zero n = refl
  held-other (suc y) n = rw (get_or-set_other l (x - 1) y v 0 (λ e. n (omega (arith, e))))

  -- what is held for each reference, where it may be v for x
  each : (P : ℕ → ℕ → Type 0) → ((y : ℕ) → P y (held_of l y)) → P x v → (y : ℕ) → P y (held_of (set l (x - 1) v) y)
  each P a p y = pick (ℕ_discrete y x) (dec_le x (length l))
    where
      pick : Dec (y ≡ x) → Dec (x ≤ length l) → P y (held_of (set l (x - 1) v) y)
      pick (yes e) (yes b) = rw (held-set y e b, e) p
      pick (yes e) (no b) = rw (set_out l (x - 1) v (omega (arith, b))) (a y)
      pick (no n) d = rw (held-other y n) (a y)

  links-set : {f : ℕ → Tree} → Links f l → Held f x v → Links f (set l (x - 1) v)
  links-set {f} k p = record { all = each (Held f) k.all p }

pub joins-flip : {l k : List ℕ} {x y : ℕ} → Joins l k y x → Joins l k x y
joins-flip j = record { falls = j.falls; holds = λ f k e. j.holds f k (sym e) }

pub joins_set : (l : List ℕ) (x y : ℕ) → y < x → y < 32768 → Joins l (set l (x - 1) y) x y
unfolding link_of
joins_set l x y h b =
    let e : link y ≡ y = link-low b in record {
      falls = λ k. each l x y (omega arith) (λ i v. (v < 65536) × (link v ≤ i - 1)) k (omega arith, omega (arith, e));
      holds = λ f k p. links-set l x y (omega arith) k (record {
        fits = omega arith;
        low = omega (arith, e);
        same = λ i. ap f e ∙ p;
        apart = λ i. absurd (omega arith);
      });
    }

pub parts-set : (l : List ℕ) (x y : ℕ) → x < 32768 → 1 ≤ y → Parts l (set l (y - 1) (32768 + x)) x y
parts-set l x y b h =
    let e : link (32768 + x) ≡ 0 = link-high (omega arith) in
    let g : 32768 + x - 32768 ≡ x = omega arith in record {
      holds = λ f k n. links-set l y (32768 + x) h k (record {
        fits = omega arith;
        low = omega (arith, e);
        same = λ i. absurd (omega (arith, e));
        apart = λ i p. n (ap f (sym g) ∙ p);
      });
    }

pub links-none : (f : ℕ → Tree) (n : ℕ) → Links f (replicate n 0)
links-none f n = record {
  all = λ x. record {
    fits = omega (arith, zeros x);
    low = omega (arith, none x);
    same = λ h. absurd (omega (arith, none x));
    apart = λ h. absurd (omega (arith, zeros x));
  };
}
  where
    get_d-zeros : (x : ℕ) → Dec (x < n) → ◌≡◌ {A = ℕ} (get_or (replicate n 0) x 0) 0
    get_d-zeros x (yes h) = get_or-replicate n x 0 0 h
    get_d-zeros x (no h) = get_or-eq_default (replicate n 0) 0 (omega (arith, h, length-replicate {A = ℕ} n 0))

    zeros : (x : ℕ) → held_of (replicate n 0) x ≡ 0
    zeros x = pick (ℕ_discrete x 0)
      where
        pick : Dec (x ≡ 0) → held_of (replicate n 0) x ≡ 0
        pick (yes e) = held-zero (replicate n 0) x e
        pick (no h) = held_at (replicate n 0) x (omega (arith, h)) ∙ get_d-zeros (x - 1) (dec_lt (x - 1) n)

    none : (x : ℕ) → link (held_of (replicate n 0) x) ≡ 0
    none x = ap link (zeros x) ∙ link-low (omega arith)
