-- Programs that only take bytes: they open no part, count no node and leave the memo as it is. `Calm s at P p`: from the place `at` on, p takes bytes that are there, and where it answers
-- P holds of the answer and of the place behind it.
--     run-quiet    so it leaves all as it was, but for the place
--     Taken        its answer, as what follows knows it
-- Assumes nothing.
use Prim.Native.Nat.{ℕ, ◌+◌, ◌≤◌}
use Prim.Native.String.{String}
use mathlib.Core.Path.{◌≡◌, refl, sym, subst}
use mathlib.Core.List.{List}
use mathlib.Core.Bool.{Bool, true, false}
use native.Mathlib.Omega.{arith}
use lib.ListN.{length, drop, length-drop}
use Rattle.scan.specs.Bytes.{pick, bytes, starts}
use Rattle.scan.specs.Cursor.{Leaf, Span}
use Rattle.std.specs.Prelude.{Ok, Err}
use Rattle.scan.proofs.Fits.{Fits}
use Rattle.strings.proofs.Fit.{SpanFits}
use Rattle.letters.specs.declared.Class.{Class}
use Rattle.letters.proofs.Spelled.{starts-fits}
use Rattle.grammar.specs.Program.{Program, ret, fail, look, when, skip, recall, keep, store, part, sub, node, Reply, found, refused, Out, out, onward, Part, Shut, Same, run}
use Rattle.grammar.specs.Words.{◌⇒◌∥◌, refuse_if, leaf_is, leaf, span_is, span, class, count}
use Rattle.grammar.specs.declared.State.{State}
use Rattle.grammar.specs.declared.Refusal.{Refusal}
use Rattle.grammar.proofs.Leaves.{SpanLeast}
use Rattle.grammar.proofs.Bounds.{Below}

-- the state at another place
abbrev pub moved : ℕ → State → State
moved at st = record { at = at; used = st.used; deep = st.deep; memo = st.memo }

-- what is said of an answer, where there is one
abbrev pub IfFound : {A : Type 0} → Reply A → (A → Type 0) → Type 0
IfFound (found a) P = P a
IfFound (refused w) P = Unit {0}

-- where the program answers, P holds of the answer and of the place behind it
module _ {Tag : Type 0} {Ans : Tag → Type 0} (s : List ℕ) where
  abbrev Quiet : {A : Type 0} → (A → ℕ → Type 0) → ℕ → Program Tag Ans A → Type 0
  Quiet P at (ret a) = P a at
  Quiet P at fail = Unit {0}
  Quiet P at (look k) = Quiet P at (k s at)
  Quiet P at (when b p q) = (b ≡ true → Quiet P at p) × (b ≡ false → Quiet P at q)
  Quiet P at (skip n p) = (at + n ≤ length s) × Quiet P (at + n) p
  Quiet P at (recall k) = ⊥
  Quiet P at (keep m p) = ⊥
  Quiet P at (store w n p) = ⊥
  Quiet P at (part tag k) = ⊥
  Quiet P at (sub p k) = Quiet (λ b at'. Quiet P at' (k b)) at p
  Quiet P at (node kd numbers refs k) = ⊥

  pub record Calm {A : Type 0} (at : ℕ) (P : A → ℕ → Type 0) (p : Program Tag Ans A) : Type 0 where
    pub by : at ≤ length s → Quiet P at p

-- what such a program leaves, where it answers: all as it was, but for the place
pub record Quieted {A T : Type 0} (s : List ℕ) (P : A → ℕ → Type 0) (st : State) (t : T) (o : Out A T) : Type 0 where
  pub end : IfFound o.reply (λ a. (at : ℕ) × (at ≤ length s) × P a at × (o ≡ out (found a) (moved at st) t))

pick-quiet : {A T : Type 0} {s : List ℕ} {P : A → ℕ → Type 0} {st : State} {t : T} (b : Bool) (o o' : Out A T) → (b ≡ true → Quieted s P st t o) → (b ≡ false → Quieted s P st t o') → Quieted s P st t (pick b o o')
pick-quiet true o o' f h = f refl
pick-quiet false o o' f h = h refl

-- such an answer, as what follows it knows it
pub record Taken {A : Type 0} (s : List ℕ) (P : A → ℕ → Type 0) : Type 0 where
  pub value : A
  pub at : ℕ
  pub inside : at ≤ length s
  pub holds : P value at

-- so what holds of all that can follow such an answer holds of what does
pub after-quiet :
    {A B T : Type 0} {s : List ℕ} {P : B → ℕ → Type 0} (G : Out A T → Type 0) (st : State) (t : T) (y : Reply B) (o : Out B T) (f : B → State → T → Out A T) → o.reply ≡ y → Quieted s P st t o →
    ((a : Taken s P) → G (f a.value (moved a.at st) t)) → ((w : Refusal) (st : State) (t : T) → G (out (refused w) st t)) → G (onward y o.state o.cells f)
after-quiet {A} {B} {T} {s} {P} G st t (found b) o f q e k z =
    let r : (at : ℕ) × (at ≤ length s) × P b at × (o ≡ out (found b) (moved at st) t) = subst (λ (y : Reply B). IfFound y (λ b. (at : ℕ) × (at ≤ length s) × P b at × (o ≡ out (found b) (moved at st) t))) q e.end in
    subst (λ (v : Out B T). G (f b v.state v.cells)) (sym r.3) (k (record { value = b; at = r.0; inside = r.1; holds = r.2 }))
after-quiet G st t (refused w) o f q e k z = z w o.state o.cells

module _ {Tag T : Type 0} {Ans : Tag → Type 0} (s : List ℕ) (same : Same T) (shut : Shut T) (rec : Part Tag Ans T) where
  pub run-quiet : {A : Type 0} (p : Program Tag Ans A) (P : A → ℕ → Type 0) (st : State) (t : T) → st.at ≤ length s → Quiet s P st.at p → Quieted s P st t (run s same shut rec p st t)
  unfolding run
  run-quiet (ret a) P st t i q = record { end = (st.at, i, q, refl) }
  run-quiet fail P st t i q = record { end = tt }
  run-quiet (look k) P st t i q = record { end = (run-quiet (k s st.at) P st t i q).end }
  run-quiet (when b p p') P st t i q = pick-quiet b _ _ (λ e. run-quiet p P st t i (q.0 e)) (λ e. run-quiet p' P st t i (q.1 e))
  run-quiet (skip n p) P st t i q = record { end = (run-quiet p P (moved (st.at + n) st) t q.0 q.1).end }
  run-quiet (recall k) P st t i q = absurd q
  run-quiet (keep m p) P st t i q = absurd q
  run-quiet (store v n p) P st t i q = absurd q
  run-quiet (part tag k) P st t i q = absurd q
  run-quiet (sub p k) P st t i q =
      after-quiet (Quieted s P st t) st t _ _ _ refl (run-quiet p (λ b at'. Quiet s P at' (k b)) st t i q)
      (λ a. record { end = (run-quiet (k a.value) P (moved a.at st) t a.inside a.holds).end }) (λ w st t. record { end = tt })
  run-quiet (node kd numbers refs k) P st t i q = absurd q

module _ {Tag : Type 0} {Ans : Tag → Type 0} (s : List ℕ) where
  quiet-more : {A : Type 0} (p : Program Tag Ans A) (P Q : A → ℕ → Type 0) (at : ℕ) → at ≤ length s → ((a : A) (at : ℕ) → at ≤ length s → P a at → Q a at) → Quiet s P at p → Quiet s Q at p
  quiet-more (ret a) P Q at i f q = f a at i q
  quiet-more fail P Q at i f q = tt
  quiet-more (look k) P Q at i f q = quiet-more (k s at) P Q at i f q
  quiet-more (when b p p') P Q at i f q = ((λ e. quiet-more p P Q at i f (q.0 e)), (λ e. quiet-more p' P Q at i f (q.1 e)))
  quiet-more (skip n p) P Q at i f q = (q.0, quiet-more p P Q (at + n) q.0 f q.1)
  quiet-more (recall k) P Q at i f q = absurd q
  quiet-more (keep m p) P Q at i f q = absurd q
  quiet-more (store v n p) P Q at i f q = absurd q
  quiet-more (part tag k) P Q at i f q = absurd q
  quiet-more (sub p k) P Q at i f q = quiet-more p (λ b at'. Quiet s P at' (k b)) (λ b at'. Quiet s Q at' (k b)) at i (λ b at' i' h. quiet-more (k b) P Q at' i' f h) q
  quiet-more (node kd numbers refs k) P Q at i f q = absurd q

-- bytes that stand at a place are inside
pub starts-inside : (s : List ℕ) (at : ℕ) (b : String) → at ≤ length s → starts (bytes b) (drop at s) ≡ true → at + length (bytes b) ≤ length s
starts-inside s at b i e = omega (arith, starts-fits (bytes b) (drop at s) e, length-drop at s)

-- a leaf, by what it reads where so many bytes are left
module _ {Tag : Type 0} (Ans : Tag → Type 0) (s : List ℕ) where
  leaf-quiet : (most : ℕ) (x : Leaf) (at left : ℕ) → at + left ≤ length s → Fits left x → Below most x → Quiet {Ans = Ans} s (λ v at'. v ≤ most) at (leaf_is x)
  leaf-quiet most (Ok (v, n)) at left i h b = (omega arith, b)
  leaf-quiet most (Err n) at left i h b = (omega arith, tt)

  value-quiet : (x : Leaf) (at left : ℕ) → at + left ≤ length s → Fits left x → Quiet {Ans = Ans} s (λ v at'. Unit {0}) at (leaf_is x)
  value-quiet (Ok (v, n)) at left i h = (omega arith, tt)
  value-quiet (Err n) at left i h = (omega arith, tt)

  span-quiet : (x : Span) (at left : ℕ) → at + left ≤ length s → SpanFits left x → SpanLeast 1 x → Quiet {Ans = Ans} s (λ n at'. (1 ≤ n) × (at' ≡ at + n)) at (span_is x)
  span-quiet (Ok n) at left i h l = (omega arith, (l, refl))
  span-quiet (Err n) at left i h l = (omega arith, tt)

-- one rule for each word
module _ {Tag : Type 0} {Ans : Tag → Type 0} {s : List ℕ} where
  pub is : {A : Type 0} {at : ℕ} {P : A → ℕ → Type 0} {a : A} → P a at → Calm {Ans = Ans} s at P (ret a)
  is q = record { by = λ i. q }

  pub refuses : {A : Type 0} {at : ℕ} {P : A → ℕ → Type 0} → Calm {Ans = Ans} s at P fail
  refuses = record { by = λ i. tt }

  pub either : {A : Type 0} {at : ℕ} {P : A → ℕ → Type 0} {b : Bool} {p q : Program Tag Ans A} → Calm s at P p → Calm s at P q → Calm s at P (when b p q)
  either f h = record { by = λ i. ((λ e. f.by i), (λ e. h.by i)) }

  -- a test that refuses: what follows knows that it did not
  pub unless : {at : ℕ} {b : Bool} → Calm {Ans = Ans} s at (λ u at'. (b ≡ false) × (at' ≡ at)) (refuse_if b)
  unless = record { by = λ i. ((λ e. tt), (λ e. (e, refl))) }

  pub seen : {A : Type 0} {at : ℕ} {P : A → ℕ → Type 0} {k : List ℕ → ℕ → Program Tag Ans A} → Calm s at P (k s at) → Calm s at P (look k)
  seen f = record { by = f.by }

  pub if : {A : Type 0} {at : ℕ} {P : A → ℕ → Type 0} (b : String) {p q : Program Tag Ans A} → Calm s (at + length (bytes b)) P p → Calm s at P q → Calm s at P (b ⇒ p ∥ q)
  if {at = at} b f h = record { by = λ i. ((λ e. let l : at + length (bytes b) ≤ length s = starts-inside s at b i e in (l, f.by l)), (λ e. h.by i)) }

  pub next : {A B : Type 0} {at : ℕ} {P : B → ℕ → Type 0} {Q : A → ℕ → Type 0} {p : Program Tag Ans B} {k : B → Program Tag Ans A} → Calm s at P p → ((a : Taken s P) → Calm s a.at Q (k a.value)) → Calm s at Q (sub p k)
  next {at = at} {P = P} {Q = Q} {p = p} {k = k} f h = record { by = λ i. quiet-more s p P (λ b at'. Quiet s Q at' (k b)) at i (λ b at' i' q. (h (record { value = b; at = at'; inside = i'; holds = q })).by i') (f.by i) }

  -- leaves: a value that is at most so large, or the bytes taken
  pub valued : {at : ℕ} (f : List ℕ → Leaf) (most : ℕ) → ((r : List ℕ) → Fits (length r) (f r)) → ((r : List ℕ) → Below most (f r)) → Calm {Ans = Ans} s at (λ v at'. v ≤ most) (leaf f)
  valued {at} f most t b = record { by = λ i. leaf-quiet Ans s most (f (drop at s)) at (length (drop at s)) (omega (arith, length-drop at s)) (t (drop at s)) (b (drop at s)) }

  pub leaves : {at : ℕ} (f : List ℕ → Leaf) → ((r : List ℕ) → Fits (length r) (f r)) → Calm {Ans = Ans} s at (λ v at'. Unit {0}) (leaf f)
  leaves {at} f t = record { by = λ i. value-quiet Ans s (f (drop at s)) at (length (drop at s)) (omega (arith, length-drop at s)) (t (drop at s)) }

  pub spanned : {at : ℕ} (f : List ℕ → Span) → ((r : List ℕ) → SpanFits (length r) (f r)) → ((r : List ℕ) → SpanLeast 1 (f r)) → Calm {Ans = Ans} s at (λ n at'. (1 ≤ n) × (at' ≡ at + n)) (span f)
  spanned {at} f t l = record { by = λ i. span-quiet Ans s (f (drop at s)) at (length (drop at s)) (omega (arith, length-drop at s)) (t (drop at s)) (l (drop at s)) }

  pub classed : {at : ℕ} (f : List ℕ → Class) (most : ℕ) → ((r : List ℕ) → (f r).taken ≤ length r) → ((r : List ℕ) → (f r).bits ≤ most) → Calm {Ans = Ans} s at (λ v at'. v ≤ most) (class f)
  classed {at} f most t b = record { by = λ i. (omega (arith, length-drop at s, t (drop at s)), b (drop at s)) }

  pub counted : {at : ℕ} (f : List ℕ → ℕ) → ((r : List ℕ) → f r ≤ length r) → Calm {Ans = Ans} s at (λ n at'. at' ≡ at + n) (count f)
  counted {at} f t = record { by = λ i. (omega (arith, length-drop at s, t (drop at s)), refl) }
