-- The bytes taken pay for the nodes: a byte earns two, a node costs one. So C bytes pay for at most 2C - 1 nodes, and no place passes the symbol's end.
-- What a part needs beforehand and gives afterwards is promised by its tag; that each production keeps its promise is `Fund`, by one rule for each word.
--     pays     a reading of a grammar whose productions are funded
--     capped   so a cap on the nodes that is twice the symbol's length or more changes nothing
-- Assumes nothing.
use Prim.Native.Nat.{ℕ, zero, suc, ◌+◌, ◌-◌, ◌*◌, ◌<◌, ◌≤◌, max, min}
use Prim.Native.String.{String}
use mathlib.Core.Path.{◌≡◌, refl, sym, subst, ◌∙◌}
use mathlib.Core.List.{List, [], ◌∷◌}
use mathlib.Core.Bool.{Bool, true, false}
use native.Mathlib.Omega.{arith}
use lib.ListN.{length, drop, length-drop}
use lib.Dec.{leb}
use borrow.Author.Tests.{leb-true, leb-false, le-leb}
use Rattle.scan.specs.Bytes.{pick, bytes, is_digit}
use Rattle.grammar.specs.Program.{Store, Program, ret, fail, look, when, skip, recall, keep, store, part, sub, node, Reply, found, refused, Out, onward, Part, Shut, Same, run}
use Rattle.grammar.specs.Words.{byte_at, ◌⇒◌∥◌, leaf_is, leaf, span_is, span, class, count, ordered, digit, number, unsigned, string, hex_digits}
use Rattle.grammar.specs.Counts.{Node, Limit, depth, room, Demand, Log, shut_asking, asking, opened, read_asking, read_nodes, asks, budget, settled, same-limit, most}
use Rattle.grammar.proofs.Demands.{leb-not, reports, settles}
use Rattle.grammar.proofs.Leaves.{Least, SpanLeast, least-none, at_least, at-least, number-least, unsigned-fits, unsigned-least, string-fits, string-least, hex-fits}
use Rattle.scan.specs.Number.{read_number, read_unsigned}
use Rattle.scan.specs.Name.{read_string, read_hex_digits}
use Rattle.scan.specs.Cursor.{Leaf, Span}
use Rattle.std.specs.Prelude.{Ok, Err}
use Rattle.scan.proofs.Fits.{Fits, number_fits}
use Rattle.strings.proofs.Fit.{SpanFits}
use Rattle.letters.specs.declared.Class.{Class}
use Rattle.letters.proofs.Spelled.{starts-fits}
use Rattle.grammar.specs.declared.State.{State}
use Rattle.grammar.specs.declared.Memo.{Memo}
use Rattle.scan.specs.Limits.{deepest_reading}

leb-min : (c a b : ℕ) → c ≤ a → leb c (min a b) ≡ leb c b
leb-min c a b p = go (leb c b) refl
  where
    go : (t : Bool) → leb c b ≡ t → leb c (min a b) ≡ leb c b
    go true e = let l : c ≤ b = leb-true c b e in le-leb c (min a b) (omega arith) ∙ sym e
    go false e = let l : b < c = leb-false c b e in leb-not c (min a b) (omega arith) ∙ sym e

-- what a part needs of the credit, and what it gives back with an answer
pub record Promise : Type 0 where
  pub need : ℕ
  pub gives : ℕ

-- from the place `at` with a credit c the program comes to its answer with a credit of g or more
module _ {Tag : Type 0} {Ans : Tag → Type 0} (s : List ℕ) (promise : Tag → Promise) where
  abbrev pub Funded : {A : Type 0} → ℕ → ℕ → ℕ → Program Tag Ans A → Type 0
  Funded at c g (ret a) = g ≤ c
  Funded at c g fail = Unit {0}
  Funded at c g (look k) = Funded at c g (k s at)
  Funded at c g (when b p q) = (b ≡ true → Funded at c g p) × (b ≡ false → Funded at c g q)
  Funded at c g (skip n p) = (at + n ≤ length s) × Funded (at + n) (c + 2 * n) g p
  Funded at c g (recall k) = (m : Memo) → Funded at c g (k m)
  Funded at c g (keep m p) = Funded at c g p
  Funded at c g (store w n p) = Funded at c g p
  Funded at c g (part tag k) = ((promise tag).need ≤ c) × ((a : Ans tag) (at' : ℕ) → at' ≤ length s → Funded at' (c - (promise tag).need + (promise tag).gives) g (k a))
  Funded at c g (sub {B = B} p k) = (m : ℕ) × Funded at c m p × ((b : B) (at' : ℕ) → at' ≤ length s → Funded at' m g (k b))
  Funded at c g (node kd numbers refs k) = (1 ≤ c) × ((n at' : ℕ) → at' ≤ length s → Funded at' (c - 1) g (k n))

  -- the same at every place
  pub record Fund {A : Type 0} (c g : ℕ) (p : Program Tag Ans A) : Type 0 where
    pub by : (at : ℕ) → at ≤ length s → Funded at c g p

-- what is left of the credit: all of it with an answer, and some with a refusal
abbrev owed : {A : Type 0} → Reply A → ℕ → ℕ
owed (found a) g = g
owed (refused w) g = 0

pub record Pays {A T : Type 0} (s : List ℕ) (g : ℕ) (o : Out A T) : Type 0 where
  pub inside : o.state.at ≤ length s
  pub paid : o.state.used + owed o.reply g ≤ 2 * o.state.at

-- closing a node takes no byte and counts one node at most
pub record Closes {T : Type 0} (st : State) (o : Out ℕ T) : Type 0 where
  pub at : o.state.at ≡ st.at
  pub used : o.state.used ≡ st.used + owed o.reply 1

pick-pays : {A T : Type 0} {s : List ℕ} {g : ℕ} (b : Bool) (x y : Out A T) → (b ≡ true → Pays s g x) → (b ≡ false → Pays s g y) → Pays s g (pick b x y)
pick-pays true x y p q = p refl
pick-pays false x y p q = q refl

then-pays :
    {A B T : Type 0} {s : List ℕ} {m g : ℕ} (r : Reply A) (o : Out A T) (f : A → State → T → Out B T) → o.reply ≡ r → Pays s m o →
    ((a : A) (st : State) (t : T) → st.at ≤ length s → st.used + m ≤ 2 * st.at → Pays s g (f a st t)) → Pays s g (onward r o.state o.cells f)
then-pays {A} {m = m} (found a) o f e r k = k a o.state o.cells r.inside (subst (λ (a : Reply A). o.state.used + owed a m ≤ 2 * o.state.at) e r.paid)
then-pays {A} {m = m} (refused w) o f e r k = record { inside = r.inside; paid = subst (λ (a : Reply A). o.state.used + owed a m ≤ 2 * o.state.at) e r.paid }

closed-pays : {T : Type 0} {s : List ℕ} {c : ℕ} (r : Reply ℕ) (st : State) (o : Out ℕ T) → o.reply ≡ r → Closes st o → st.at ≤ length s → 1 ≤ c → st.used + c ≤ 2 * st.at → Pays s (c - 1) o
closed-pays (found n) st o e r i l p = let u = subst (λ (a : Reply ℕ). o.state.used ≡ st.used + owed a 1) e r.used in record { inside = omega (arith, r.at); paid = rw e (omega (arith, r.at, u)) }
closed-pays (refused w) st o e r i l p = let u = subst (λ (a : Reply ℕ). o.state.used ≡ st.used + owed a 1) e r.used in record { inside = omega (arith, r.at); paid = rw e (omega (arith, r.at, u)) }

module _ {Tag T : Type 0} {Ans : Tag → Type 0} (s : List ℕ) (promise : Tag → Promise) (same : Same T) (shut : Shut T) (rec : Part Tag Ans T)
    (shuts : (kd : ℕ) (numbers refs : List ℕ) (st : State) (t : T) → Closes st (shut kd numbers refs st t))
    (reads : (tag : Tag) (e : ℕ) (st : State) (t : T) → st.at ≤ length s → st.used + (e + (promise tag).need) ≤ 2 * st.at → Pays s (e + (promise tag).gives) (rec tag st t)) where
  run-pays : {A : Type 0} (p : Program Tag Ans A) (e c g : ℕ) (st : State) (t : T) → st.at ≤ length s → st.used + (e + c) ≤ 2 * st.at → Funded s promise st.at c g p → Pays s (e + g) (run s same shut rec p st t)
  unfolding run
  run-pays (ret n) e c g st t i b f = record { inside = i; paid = omega arith }
  run-pays fail e c g st t i b f = record { inside = i; paid = omega arith }
  run-pays (look k) e c g st t i b f = run-pays (k s st.at) e c g st t i b f
  run-pays (when x p q) e c g st t i b f = pick-pays x _ _ (λ h. run-pays p e c g st t i b (f.0 h)) (λ h. run-pays q e c g st t i b (f.1 h))
  run-pays (skip n p) e c g st t i b f = run-pays p e (c + 2 * n) g _ t f.0 (omega arith) f.1
  run-pays (recall k) e c g st t i b f = run-pays (k st.memo) e c g st t i b (f st.memo)
  run-pays (keep m p) e c g st t i b f = run-pays p e c g _ t i b f
  run-pays (store w n p) e c g st t i b f = run-pays p e c g _ t i b f
  run-pays (part tag k) e c g st t i b f =
      let l : (promise tag).need ≤ c = f.0 in
      then-pays (rec tag st t).reply (rec tag st t) _ refl (reads tag (e + (c - (promise tag).need)) st t i (omega arith))
      (λ a st₁ t₁ i₁ b₁. run-pays (k a) e (c - (promise tag).need + (promise tag).gives) g st₁ t₁ i₁ (omega arith) (f.1 a st₁.at i₁))
  run-pays (sub p k) e c g st t i b f =
      then-pays (run s same shut rec p st t).reply (run s same shut rec p st t) _ refl (run-pays p e c f.0 st t i b f.1)
      (λ a st₁ t₁ i₁ b₁. run-pays (k a) e f.0 g st₁ t₁ i₁ b₁ (f.2 a st₁.at i₁))
  run-pays (node kd numbers refs k) e c g st t i p f =
      let l : 1 ≤ c = f.0 in
      then-pays (shut kd numbers refs st t).reply (shut kd numbers refs st t) _ refl (closed-pays {c = e + c} (shut kd numbers refs st t).reply st (shut kd numbers refs st t) refl (shuts kd numbers refs st t) i (omega arith) p)
      (λ n st₁ t₁ i₁ b₁. run-pays (k n) e (c - 1) g st₁ t₁ i₁ (omega arith) (f.1 n st₁.at i₁))

asking-closes : (kd : ℕ) (numbers refs : List ℕ) (st : State) (l : Log) → Closes st (shut_asking kd numbers refs st l)
unfolding shut_asking
asking-closes kd numbers refs st l = record { at = refl; used = refl }

-- a cap that no demand for nodes passes settles nothing
cap-step : {A : Type 0} (lim : Limit) (limit nodes cap c m : ℕ) (x x' y : Out A (List Node)) → pick (same-limit room lim) (max c m) m ≤ cap → (m ≤ cap → x ≡ x') → pick (leb c (budget limit (min cap nodes) lim)) x y ≡ pick (leb c (budget limit nodes lim)) x' y
cap-step depth limit nodes cap c m x x' y p k = rw (k p)
cap-step room limit nodes cap c m x x' y p k = rw (k (omega arith), leb-min c cap nodes (omega arith))

settled-capped : {A : Type 0} (limit nodes cap : ℕ) (ds : List Demand) (o : Out A (List Node)) → most room ds ≤ cap → settled limit (min cap nodes) ds o ≡ settled limit nodes ds o
settled-capped limit nodes cap [] o p = refl
settled-capped limit nodes cap (d ∷ ds) o p = cap-step d.limit limit nodes cap d.count (most room ds) _ _ _ p (settled-capped limit nodes cap ds o)

-- a grammar whose productions keep what their tags promise
module _ {Tag : Type 0} {Ans : Tag → Type 0} (body : (tag : Tag) → Program Tag Ans (Ans tag)) (same : Same (List Node)) (s : List ℕ) (promise : Tag → Promise)
    (funded : (tag : Tag) → Fund s promise (promise tag).need (promise tag).gives (body tag)) where
  reads-pay :
      (d : ℕ) (tag : Tag) (e : ℕ) (st : State) (l : Log) → st.at ≤ length s → st.used + (e + (promise tag).need) ≤ 2 * st.at → Pays s (e + (promise tag).gives) (read_asking body same s d tag st l)
  unfolding read_asking
  reads-pay zero tag e st l i b = record { inside = i; paid = omega arith }
  reads-pay (suc d) tag e st l i b =
      run-pays s promise (λ used l. same used l.nodes) shut_asking (read_asking body same s d) asking-closes (reads-pay d) (body tag) e (promise tag).need (promise tag).gives (opened (deepest_reading - d) st) (asking (deepest_reading - d) st l) i b ((funded tag).by st.at i)

  pub pays : (tag : Tag) (st : State) → st.at ≡ 0 → st.used ≡ 0 → (promise tag).need ≡ 0 → Pays s (promise tag).gives (asks body same s tag st)
  pays tag st a u n =
      let e : 0 + (promise tag).gives ≡ (promise tag).gives = omega arith in
      rw e at (reads-pay deepest_reading tag 0 st (record { nodes = []; asked = [] }) (omega arith) (omega arith))

  -- so a cap on the nodes that is no less than twice the symbol's length changes nothing, whatever room is lent
  module _ (tag : Tag) (st : State) (no-at : st.at ≡ 0) (no-deep : st.deep ≡ 0) (no-used : st.used ≡ 0) (no-need : (promise tag).need ≡ 0) where
    pub few : most room (asks body same s tag st).cells.asked ≤ 2 * length s
    few =
        let c = reports body same s tag st no-deep no-used in
        let p = pays tag st no-at no-used no-need in
        omega (arith, c.used, p.paid, p.inside)

    pub capped : (limit nodes cap : ℕ) → limit ≤ deepest_reading → 2 * length s ≤ cap → read_nodes body same s limit (min cap nodes) limit tag st [] ≡ read_nodes body same s limit nodes limit tag st []
    capped limit nodes cap low c =
        settles body same s limit (min cap nodes) low tag st ∙ settled-capped limit nodes cap (asks body same s tag st).cells.asked _ (omega (arith, few)) ∙ sym (settles body same s limit nodes low tag st)

-- a byte of a kind that stands at a place is inside
pub true-false : {A : Type 0} → ◌≡◌ {A = Bool} true false → A
true-false e = let z : ◌≡◌ {A = ℕ} 0 1 = cc in absurd (omega arith)

pub digit-inside : (s : List ℕ) (at : ℕ) → is_digit (byte_at s at) ≡ true → at < length s
digit-inside [] at e = true-false (sym e)
digit-inside (x ∷ s) zero e = omega arith
digit-inside (x ∷ s) (suc at) e = let h : at < length s = digit-inside s at e in omega arith

-- more credit beforehand, or less afterwards, will do as well
module _ {Tag : Type 0} {Ans : Tag → Type 0} (s : List ℕ) (promise : Tag → Promise) where
  funded-more : {A : Type 0} (p : Program Tag Ans A) (at c c' g g' : ℕ) → c ≤ c' → g' ≤ g → Funded s promise at c g p → Funded s promise at c' g' p
  funded-more (ret a) at c c' g g' l m f = omega arith
  funded-more fail at c c' g g' l m f = tt
  funded-more (look k) at c c' g g' l m f = funded-more (k s at) at c c' g g' l m f
  funded-more (when b p q) at c c' g g' l m f = ((λ e. funded-more p at c c' g g' l m (f.0 e)), (λ e. funded-more q at c c' g g' l m (f.1 e)))
  funded-more (skip n p) at c c' g g' l m f = (f.0, funded-more p (at + n) (c + 2 * n) (c' + 2 * n) g g' (omega arith) m f.1)
  funded-more (recall k) at c c' g g' l m f = λ x. funded-more (k x) at c c' g g' l m (f x)
  funded-more (keep x p) at c c' g g' l m f = funded-more p at c c' g g' l m f
  funded-more (store w n p) at c c' g g' l m f = funded-more p at c c' g g' l m f
  funded-more (part tag k) at c c' g g' l m f =
      let n : (promise tag).need ≤ c = f.0 in
      (omega arith, (λ a at' i. funded-more (k a) at' (c - (promise tag).need + (promise tag).gives) (c' - (promise tag).need + (promise tag).gives) g g' (omega arith) m (f.1 a at' i)))
  funded-more (sub p k) at c c' g g' l m f = (f.0, funded-more p at c c' f.0 f.0 l (omega arith) f.1, (λ b at' i. funded-more (k b) at' f.0 f.0 g g' (omega arith) m (f.2 b at' i)))
  funded-more (node kd numbers refs k) at c c' g g' l m f =
      let n : 1 ≤ c = f.0 in
      (omega arith, (λ x at' i. funded-more (k x) at' (c - 1) (c' - 1) g g' (omega arith) m (f.1 x at' i)))

-- a leaf, by what it reads where so many bytes are left
module _ {Tag : Type 0} (Ans : Tag → Type 0) (s : List ℕ) (promise : Tag → Promise) (c g : ℕ) where
  leaf-funded : (lo : ℕ) (x : Leaf) (at left : ℕ) → at + left ≤ length s → Fits left x → Least lo x → g ≤ c + 2 * lo → Funded {Ans = Ans} s promise at c g (leaf_is x)
  leaf-funded lo (Ok (v, n)) at left i h m l = omega arith
  leaf-funded lo (Err n) at left i h m l = (omega arith, tt)

  span-funded : (lo : ℕ) (x : Span) (at left : ℕ) → at + left ≤ length s → SpanFits left x → SpanLeast lo x → g ≤ c + 2 * lo → Funded {Ans = Ans} s promise at c g (span_is x)
  span-funded lo (Ok n) at left i h m l = omega arith
  span-funded lo (Err n) at left i h m l = (omega arith, tt)

-- one rule for each word
module _ {Tag : Type 0} {Ans : Tag → Type 0} {s : List ℕ} {promise : Tag → Promise} where
  pub ends : {A : Type 0} {a : A} {c g : ℕ} → g ≤ c → Fund {Ans = Ans} s promise c g (ret a)
  ends h = record { by = λ at i. h }

  pub fails : {A : Type 0} {c g : ℕ} → Fund {Ans = Ans} s promise {A = A} c g fail
  fails = record { by = λ at i. tt }

  pub looks : {A : Type 0} {c g : ℕ} {k : List ℕ → ℕ → Program Tag Ans A} → ((at : ℕ) → Fund s promise c g (k s at)) → Fund s promise c g (look k)
  looks f = record { by = λ at i. (f at).by at i }

  pub chooses : {A : Type 0} {c g : ℕ} {b : Bool} {p q : Program Tag Ans A} → Fund s promise c g p → Fund s promise c g q → Fund s promise c g (when b p q)
  chooses f h = record { by = λ at i. ((λ e. f.by at i), (λ e. h.by at i)) }

  pub recalls : {A : Type 0} {c g : ℕ} {k : Memo → Program Tag Ans A} → ((m : Memo) → Fund s promise c g (k m)) → Fund s promise c g (recall k)
  recalls f = record { by = λ at i m. (f m).by at i }

  pub keeps : {A : Type 0} {c g : ℕ} {m : Memo} {p : Program Tag Ans A} → Fund s promise c g p → Fund s promise c g (keep m p)
  keeps f = record { by = f.by }

  pub stores : {A : Type 0} {c g n : ℕ} {w : Store} {p : Program Tag Ans A} → Fund s promise c g p → Fund s promise c g (store w n p)
  stores f = record { by = f.by }

  pub on : {A : Type 0} {c g : ℕ} (b : String) {p q : Program Tag Ans A} → Fund s promise (c + 2 * length (bytes b)) g p → Fund s promise c g q → Fund s promise c g (b ⇒ p ∥ q)
  on b f h = record { by = λ at i. ((λ e. let l : length (bytes b) ≤ length s - at = rw (← length-drop at s) (starts-fits (bytes b) (drop at s) e) in let j : at + length (bytes b) ≤ length s = omega arith in (j, f.by _ j)), (λ e. h.by at i)) }

  pub more : {A : Type 0} {c' g' : ℕ} {p : Program Tag Ans A} (c g : ℕ) → c ≤ c' → g' ≤ g → Fund s promise c g p → Fund s promise c' g' p
  more {p = p} c g l m f = record { by = λ at i. funded-more s promise p at c _ g _ l m (f.by at i) }

  -- a leaf that takes no more than remains, and lo bytes or more where it answers
  pub taken : {c g : ℕ} (f : List ℕ → Leaf) (lo : ℕ) → ((r : List ℕ) → Fits (length r) (f r)) → ((r : List ℕ) → Least lo (f r)) → g ≤ c + 2 * lo → Fund {Ans = Ans} s promise c g (leaf f)
  taken f lo t m l = record { by = λ at i. leaf-funded Ans s promise _ _ lo (f (drop at s)) at (length (drop at s)) (omega (arith, length-drop at s)) (t (drop at s)) (m (drop at s)) l }

  pub leaves : {c g : ℕ} (f : List ℕ → Leaf) → ((r : List ℕ) → Fits (length r) (f r)) → g ≤ c → Fund {Ans = Ans} s promise c g (leaf f)
  leaves f t l = taken f 0 t (λ r. least-none (f r)) (omega arith)

  pub spanned : {c g : ℕ} (f : List ℕ → Span) (lo : ℕ) → ((r : List ℕ) → SpanFits (length r) (f r)) → ((r : List ℕ) → SpanLeast lo (f r)) → g ≤ c + 2 * lo → Fund {Ans = Ans} s promise c g (span f)
  spanned f lo t m l = record { by = λ at i. span-funded Ans s promise _ _ lo (f (drop at s)) at (length (drop at s)) (omega (arith, length-drop at s)) (t (drop at s)) (m (drop at s)) l }

  pub classes : {c g : ℕ} (f : List ℕ → Class) → ((r : List ℕ) → (f r).taken ≤ length r) → g ≤ c → Fund {Ans = Ans} s promise c g (class f)
  classes f t l = record { by = λ at i. let h : (f (drop at s)).taken ≤ length (drop at s) = t (drop at s) in (omega (arith, length-drop at s), omega arith) }

  pub counts : {c g : ℕ} (f : List ℕ → ℕ) → ((r : List ℕ) → f r ≤ length r) → g ≤ c → Fund {Ans = Ans} s promise c g (count f)
  counts f t l = record { by = λ at i. let h : f (drop at s) ≤ length (drop at s) = t (drop at s) in (omega (arith, length-drop at s), omega arith) }

  -- the leaves that have words of their own
  pub numbers : {c g : ℕ} → g ≤ c + 2 → Fund {Ans = Ans} s promise c g number
  numbers l = taken read_number 1 number_fits number-least l

  pub unsigneds : {c g : ℕ} → g ≤ c + 2 → Fund {Ans = Ans} s promise c g unsigned
  unsigneds l = taken read_unsigned 1 unsigned-fits unsigned-least l

  pub strings : {c g : ℕ} → g ≤ c + 2 → Fund {Ans = Ans} s promise c g string
  strings l = spanned read_string 1 string-fits string-least l

  pub hexes : {c g : ℕ} → g ≤ c → Fund {Ans = Ans} s promise c g hex_digits
  hexes l = counts read_hex_digits hex-fits l

  -- ordered choice: each entry has the credit of the fewest bytes
  pub orders-all : {X A : Type 0} {c g : ℕ} (lo : ℕ) (table : List (String × X)) (k : X → Program Tag Ans A) {p : Program Tag Ans A} → at_least lo table ≡ true → ((x : X) → Fund s promise (c + 2 * lo) g (k x)) → Fund s promise c g p → Fund s promise c g (ordered table k p)
  orders-all lo [] k e f h = h
  orders-all {c = c} {g = g} lo ((t, x) ∷ ts) k e f h = let l = at-least lo t x ts e in on t (more (c + 2 * lo) g (omega (arith, l.0)) (omega arith) (f x)) (orders-all lo ts k l.1 f h)

  pub digits : {A : Type 0} {c g : ℕ} (p : ℕ → Program Tag Ans A) {q : Program Tag Ans A} → ((d : ℕ) → Fund s promise (c + 2) g (p d)) → Fund s promise c g q → Fund s promise c g (digit p q)
  digits p f h = record { by = λ at i. ((λ e. let l : at < length s = digit-inside s at e in let j : at + 1 ≤ length s = omega arith in (j, (f _).by _ j)), (λ e. h.by at i)) }

  pub reads : {tag : Tag} {c g : ℕ} → (promise tag).need ≤ c → g ≤ c - (promise tag).need + (promise tag).gives → Fund {Ans = Ans} s promise c g (part tag ret)
  reads n l = record { by = λ at i. (n, (λ a at' i'. l)) }

  pub shuts : {kd c g : ℕ} {numbers refs : List ℕ} → g + 1 ≤ c → Fund {Ans = Ans} s promise c g (node kd numbers refs ret)
  shuts l = record { by = λ at i. omega arith }

  pub then : {A B : Type 0} {c g : ℕ} {p : Program Tag Ans B} {k : B → Program Tag Ans A} (m : ℕ) → Fund s promise c m p → ((b : B) → Fund s promise m g (k b)) → Fund s promise c g (sub p k)
  then m f h = record { by = λ at i. (m, f.by at i, (λ b at' i'. (h b).by at' i')) }
