-- What refuses a call before anything is read, and what refuses a lent table behind that: 7, 1, 2 and 8, exactly. Assumes nothing.
use Prim.Native.Nat.{ℕ}
use mathlib.Core.Bool.{Bool, true, false}
use mathlib.Core.Path.{◌≡◌, refl, sym, ap, ◌∙◌}
use mathlib.Core.List.{List, [], ◌∷◌}
use mathlib.Core.Logic.{◌↔◌, inl, inr, ⊎_elim}
use native.Mathlib.Omega.{arith}
use borrow.Author.Tests.{leb-true, leb-false, eqb-true, eqb-false, le-leb, lt-leb, lt-ltb}
use lib.Dec.{leb, ltb, eqb}
use lib.ListN.{length}
use Rattle.std.proofs.lemmas.List.Quantifiers.{position-Some}
use Rattle.std.proofs.lemmas.List.Sums.{position_or_len_is}
use Rattle.std.specs.Prelude.{cond, Option, None, Some, Ok, Err}
use Rattle.scan.specs.Bytes.{pick}
use Rattle.grammar.specs.declared.Refusal.{Refusal}
use Rattle.grammar.specs.declared.Refusal.TheVariants.{Syntax, Deep, Full}
use Rattle.node.specs.Cells.{nodes}
use Rattle.reader.specs.Whole.{whole}
use Rattle.writer.specs.Written.{written}
use Rattle.gates.specs.declared.Closed.TheVariants.{Call, Symbol, High}
use Rattle.gates.specs.Gates.{Gate, low, known_flags, high_at, symbol_gate, gate}
use Rattle.farthingmoss.specs.declared.Counts.{Counts}
use Rattle.farthingmoss.specs.declared.Refused.TheVariants.{NotAscii, TooDeep, BadTable}
use Rattle.farthingmoss.specs.Call.{Answer, through, fitted, refusal, demangled, rooted, root_height, root_answer, written_alone, name_ok, name_answer}
use Rattle.promises.specs.Promises.{says, root_words, BadBudget, BadLength, FirstHigh, Gated, ReadGated, WriteGated, NameGated, WriteTables, NameTables, NameAccepts}
use Rattle.promises.proofs.Reading.{said-any, open-answers}
use Rattle.promises.proofs.Grammar.{impossible}
use Rattle.scan.specs.Limits.{longest_symbol, deepest_reading}

-- where the first byte of 128 or more stands
high_is : (s : List ℕ) (at : ℕ) → high_at s ≡ Some at → FirstHigh s at
high_is s at e =
    let p = position-Some (leb 128) s at 0 e in
    record { inside = p.0; high = leb-true 128 _ p.1; first = λ i l. leb-false 128 _ (p.2 i l) }

high-one : (s : List ℕ) (at : ℕ) → FirstHigh s at → high_at s ≡ Some at
high-one s at w =
    ap (λ (k : ℕ). cond (ltb k (length s)) (Some k) None) (position_or_len_is (leb 128) s at 0 (omega (arith, w.inside)) (λ k l. lt-leb 128 _ (w.first k l)) (λ _. le-leb 128 _ w.high))
    ∙ rw (lt-ltb at (length s) w.inside)

-- which gate stands where
record Stands (bad : Type 0) (s : List ℕ) (g : Gate) : Type 0 where
  call : (g ≡ Err Call) ↔ bad
  symbol : (g ≡ Err Symbol) ↔ ((¬ bad) × BadLength s)
  high : (at : ℕ) → (g ≡ Err (High at)) ↔ ((¬ bad) × (¬ BadLength s) × FirstHigh s at)

-- that of a symbol's length
length-stands : {s : List ℕ} → BadLength s → Stands ⊥ s (Err Symbol)
length-stands l = record { call = (λ e. impossible (cc), λ x. absurd x); symbol = (λ e. (λ x. x, l), λ w. refl); high = λ at. (λ e. impossible (cc), λ w. absurd (w.1 l)) }

symbol-by : (s : List ℕ) (empty short : Bool) → eqb (length s) 0 ≡ empty → leb (length s) longest_symbol ≡ short → Stands ⊥ s (pick empty (Err Symbol) (pick short (low (high_at s)) (Err Symbol)))
symbol-by s true short e₀ e₁ = length-stands (inl (eqb-true _ 0 e₀))
symbol-by s false false e₀ e₁ = length-stands (inr (leb-false _ longest_symbol e₁))
symbol-by s false true e₀ e₁ = by_high (high_at s) refl
  where
    fits : ¬ BadLength s
    fits = ⊎_elim (eqb-false _ 0 e₀) (λ l. omega (arith, l, leb-true (length s) longest_symbol e₁))

    by_high : (high : Option ℕ) → high_at s ≡ high → Stands ⊥ s (low high)
    by_high (Some k) e₂ = record {
      call = (λ e. impossible (cc), λ x. absurd x);
      symbol = (λ e. impossible (cc), λ w. absurd (fits w.1));
      high = λ at. (λ e. (λ x. x, fits, high_is s at (e₂ ∙ same e)), λ w. ap low (sym e₂ ∙ high-one s at w.2));
    }
      where
        same : {at : ℕ} → ◌≡◌ {A = Gate} (Err (High k)) (Err (High at)) → ◌≡◌ {A = Option ℕ} (Some k) (Some at)
        same e = cc
    by_high None e₂ = record {
      call = (λ e. impossible (cc), λ x. absurd x);
      symbol = (λ e. impossible (cc), λ w. absurd (fits w.1));
      high = λ at. (λ e. impossible (cc), λ w. impossible (let z : ◌≡◌ {A = Option ℕ} None (Some at) = sym e₂ ∙ high-one s at w.2 in cc));
    }

symbol-stands : (s : List ℕ) → Stands ⊥ s (symbol_gate s)
unfolding symbol_gate
symbol-stands s = symbol-by s (eqb (length s) 0) (leb (length s) longest_symbol) refl refl

-- with the budgets before it
budget-stands : {bad : Type 0} {s : List ℕ} → bad → Stands bad s (Err Call)
budget-stands b = record { call = (λ e. b, λ x. refl); symbol = (λ e. impossible (cc), λ w. absurd (w.0 b)); high = λ at. (λ e. impossible (cc), λ w. absurd (w.0 b)) }

gate-by : (f depth : ℕ) (s : List ℕ) (low known : Bool) → leb depth deepest_reading ≡ low → known_flags f ≡ known → (g : Gate) → Stands ⊥ s g → Stands (BadBudget f depth) s (pick low (pick known g (Err Call)) (Err Call))
gate-by f depth s false known e₀ e₁ g w = budget-stands (inl (leb-false depth deepest_reading e₀))
gate-by f depth s true false e₀ e₁ g w = budget-stands (inr e₁)
gate-by f depth s true true e₀ e₁ g w = record {
  call = (λ e. absurd (w.call.0 e), λ b. absurd (good b));
  symbol = (λ e. (good, (w.symbol.0 e).1), λ v. w.symbol.1 (λ x. x, v.1));
  high = λ at. (λ e. (good, ((w.high at).0 e).1, ((w.high at).0 e).2), λ v. (w.high at).1 (λ x. x, v.1, v.2));
}
  where
    good : ¬ BadBudget f depth
    good = ⊎_elim (λ l. omega (arith, l, leb-true depth deepest_reading e₀)) (λ e. impossible (let z : ◌≡◌ {A = Bool} true false = sym e₁ ∙ e in cc))

gate-stands : (f depth : ℕ) (s : List ℕ) → Stands (BadBudget f depth) s (gate f depth s)
unfolding gate
gate-stands f depth s = gate-by f depth s (leb depth deepest_reading) (known_flags f) refl refl (symbol_gate s) (symbol-stands s)

-- an answer that no gate gives
abbrev late : Answer → Bool
late a = says (0 ∷ 3 ∷ 4 ∷ 5 ∷ 6 ∷ 8 ∷ []) a

not_late : {A : Type 0} {a b : Answer} → late a ≡ true → late b ≡ false → a ≡ b → A
not_late l k e = impossible (let z : ◌≡◌ {A = Bool} true false = sym l ∙ ap late e ∙ k in cc)

through-gated : {bad : Type 0} {s : List ℕ} (g : Gate) (a : Answer) → (g ≡ Ok tt → late a ≡ true) → Stands bad s g → Gated bad s (through g a)
through-gated (Ok tt) a k w = record {
  seven = (not_late (k refl) refl, λ b. impossible (let z = w.call.1 b in cc));
  one = (not_late (k refl) refl, λ v. impossible (let z = w.symbol.1 v in cc));
  two = λ at. (not_late (k refl) refl, λ v. impossible (let z = (w.high at).1 v in cc));
}
through-gated (Err Call) a k w = record {
  seven = (λ e. w.call.0 refl, λ b. refl);
  one = (λ e. impossible (cc), λ v. impossible (let z = w.symbol.1 v in cc));
  two = λ at. (λ e. impossible (cc), λ v. impossible (let z = (w.high at).1 v in cc));
}
through-gated (Err Symbol) a k w = record {
  seven = (λ e. impossible (cc), λ b. impossible (let z = w.call.1 b in cc));
  one = (λ e. w.symbol.0 refl, λ v. refl);
  two = λ at. (λ e. impossible (cc), λ v. impossible (let z = (w.high at).1 v in cc));
}
through-gated (Err (High place)) a k w = record {
  seven = (λ e. impossible (cc), λ b. impossible (let z = w.call.1 b in cc));
  one = (λ e. impossible (cc), λ v. impossible (let z = w.symbol.1 v in cc));
  two = λ at. (λ e. (w.high at).0 (same_place e), λ v. ap (λ (g : Gate). through g a) ((w.high at).1 v));
}
  where
    same_place : {at : ℕ} → ◌≡◌ {A = Answer} (Err (NotAscii place)) (Err (NotAscii at)) → ◌≡◌ {A = Gate} (Err (High place)) (Err (High at))
    same_place e = cc

-- a reading call
refusal-late : (why : Refusal) (at : ℕ) → late (Err (refusal why at)) ≡ true
refusal-late Syntax at = refl
refusal-late Deep at = refl
refusal-late Full at = refl

opened : (g : Gate) (a : Answer) → g ≡ Ok tt → a ≡ through g a
opened g a o = rw o

pub read-gated : ReadGated
unfolding demangled
read-gated f depth s t room =
    through-gated (gate f depth s) _
    (λ o. ap late (opened (gate f depth s) _ o ∙ open-answers f depth s t o room) ∙ said-any (λ (a : Answer). late a ≡ true) (λ c. refl) (λ c. refl) refusal-late f s room (whole s depth t).reply (whole s depth t).state (whole s depth t).cells)
    (gate-stands f depth s)

-- the writer alone, and the name question
module _ (f : ℕ) (s t : List ℕ) (room : ℕ) where
  abbrev roots : Bool → Bool → Answer
  roots high fit = pick high (fitted 0 (root_height t) (nodes t) room (pick fit (Some (length (root_words f s t))) None)) (Err (TooDeep 0))

  root-late : (root high fit : Bool) → late (pick root (roots high fit) (Err BadTable)) ≡ true
  root-late true true true = refl
  root-late true true false = refl
  root-late true false fit = refl
  root-late false high fit = refl

pub write-gated : WriteGated
unfolding written_alone root_answer written
write-gated f depth s t room =
    through-gated (gate f depth s) _ (λ o. root-late f s t room (rooted (length s) t) (leb (root_height t) depth) (leb (length (root_words f s t)) room)) (gate-stands f depth s)

name-late : (c : Counts) (is : Bool) → late (pick is (Ok c) (Err BadTable)) ≡ true
name-late c true = refl
name-late c false = refl

pub name-gated : NameGated
unfolding name_answer
name-gated s t n = through-gated (symbol_gate s) _ (λ o. name-late _ (name_ok (length s) t n)) (symbol-stands s)

-- 8 behind an open gate
through-table : (g : Gate) (is : Bool) (a : Answer) → ¬ (a ≡ Err BadTable) → (through g (pick is a (Err BadTable)) ≡ Err BadTable) ↔ ((g ≡ Ok tt) × (is ≡ false))
through-table (Ok tt) true a k = (λ e. absurd (k e), λ w. impossible (let z = w.1 in cc))
through-table (Ok tt) false a k = (λ e. (refl, refl), λ w. refl)
through-table (Err Call) is a k = (λ e. impossible (cc), λ w. impossible (let z = w.0 in cc))
through-table (Err Symbol) is a k = (λ e. impossible (cc), λ w. impossible (let z = w.0 in cc))
through-table (Err (High at)) is a k = (λ e. impossible (cc), λ w. impossible (let z = w.0 in cc))

roots-other : (f : ℕ) (s t : List ℕ) (room : ℕ) (high fit : Bool) → ¬ (roots f s t room high fit ≡ Err BadTable)
roots-other f s t room true true e = impossible (cc)
roots-other f s t room true false e = impossible (cc)
roots-other f s t room false fit e = impossible (cc)

pub write-tables : WriteTables
unfolding written_alone root_answer written
write-tables f depth s t room = through-table (gate f depth s) (rooted (length s) t) _ (roots-other f s t room (leb (root_height t) depth) (leb (length (root_words f s t)) room))

pub name-tables : NameTables
unfolding name_answer
name-tables s t n = through-table (symbol_gate s) (name_ok (length s) t n) _ (λ e. impossible (cc))

named_by : (g : Gate) (is : Bool) (z c : Counts) → (through g (pick is (Ok z) (Err BadTable)) ≡ Ok c) ↔ ((g ≡ Ok tt) × (is ≡ true) × (c ≡ z))
named_by (Ok tt) true z c = (λ e. (refl, refl, cc), λ w. ap Ok (sym w.2))
named_by (Ok tt) false z c = (λ e. impossible (cc), λ w. impossible (let z = w.1 in cc))
named_by (Err g) is z c = (λ e. impossible (cc), λ w. impossible (let z = w.0 in cc))

pub name-accepts : NameAccepts
unfolding name_answer
name-accepts s t n c = named_by (symbol_gate s) (name_ok (length s) t n) _ c
