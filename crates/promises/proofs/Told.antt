-- The numbers of each call's answers, and that a report of five places holds the number and the values of its answer, whatever stood there. Assumes nothing.
use Prim.Native.Nat.{ℕ}
use mathlib.Core.Bool.{Bool, true, false}
use mathlib.Core.Path.{◌≡◌, refl, ap, ◌∙◌}
use mathlib.Core.List.{List, [], ◌∷◌}
use native.Mathlib.Omega.{arith}
use lib.Dec.{leb, eqb}
use lib.ListN.{length}
use Rattle.std.specs.Prelude.{Option, None, Some, Ok, Err}
use Rattle.scan.specs.Bytes.{pick}
use Rattle.grammar.specs.Program.{Reply}
use Rattle.grammar.specs.Counts.{Node}
use Rattle.grammar.specs.declared.State.{State}
use Rattle.grammar.specs.declared.Refusal.{Refusal}
use Rattle.grammar.specs.declared.Refusal.TheVariants.{Syntax, Deep, Full}
use Rattle.reader.specs.Whole.{whole}
use Rattle.writer.specs.Written.{written}
use Rattle.gates.specs.declared.Closed.TheVariants.{Call, Symbol, High}
use Rattle.farthingmoss.specs.declared.Refused.TheVariants.{NoSymbol, NotAscii, NoDerivation, TooDeep, NoNode, NoRoom, BadCall, BadTable}
use Rattle.gates.specs.Gates.{Gate, low, gate, high_at, symbol_gate}
use Rattle.farthingmoss.specs.Call.{Answer, through, fitted, refusal, filled, demangled, rooted, root_height, root_answer, written_alone, name_ok, name_answer}
use Rattle.promises.specs.Promises.{says, ReadNumbers, WriteNumbers, NameNumbers, Reports, ZeroCounts}
use Rattle.promises.proofs.Reading.{said, said-any, open-answers}
use Rattle.scan.specs.Limits.{longest_symbol}

five : (l : List ℕ) (a b c d e : ℕ) → length l ≡ 5 → filled l a b c d e ≡ a ∷ b ∷ c ∷ d ∷ e ∷ []
five [] a b c d e h = absurd (omega (arith, h))
five (v ∷ []) a b c d e h = absurd (omega (arith, h))
five (v ∷ w ∷ []) a b c d e h = absurd (omega (arith, h))
five (v ∷ w ∷ x ∷ []) a b c d e h = absurd (omega (arith, h))
five (v ∷ w ∷ x ∷ y ∷ []) a b c d e h = absurd (omega (arith, h))
five (v ∷ w ∷ x ∷ y ∷ z ∷ []) a b c d e h = refl
five (v ∷ w ∷ x ∷ y ∷ z ∷ u ∷ l) a b c d e h = absurd (omega (arith, h))

pub tells : Reports
tells (Ok c) l h = five l _ _ _ _ _ h
tells (Err NoSymbol) l h = five l _ _ _ _ _ h
tells (Err (NotAscii at)) l h = five l _ _ _ _ _ h
tells (Err (NoDerivation at)) l h = five l _ _ _ _ _ h
tells (Err (TooDeep at)) l h = five l _ _ _ _ _ h
tells (Err (NoNode at)) l h = five l _ _ _ _ _ h
tells (Err (NoRoom c)) l h = five l _ _ _ _ _ h
tells (Err BadCall) l h = five l _ _ _ _ _ h
tells (Err BadTable) l h = five l _ _ _ _ _ h

pub zero-counts : ZeroCounts
zero-counts (Ok c) e = cc
zero-counts (Err NoSymbol) e = refl
zero-counts (Err (NotAscii at)) e = refl
zero-counts (Err (NoDerivation at)) e = refl
zero-counts (Err (TooDeep at)) e = refl
zero-counts (Err (NoNode at)) e = refl
zero-counts (Err (NoRoom c)) e = cc
zero-counts (Err BadCall) e = refl
zero-counts (Err BadTable) e = refl

-- a reading call
abbrev Read : Answer → Type 0
Read a = says (0 ∷ 1 ∷ 2 ∷ 3 ∷ 4 ∷ 5 ∷ 6 ∷ 7 ∷ []) a ≡ true

refusal-number : (why : Refusal) (at : ℕ) → Read (Err (refusal why at))
refusal-number Syntax at = refl
refusal-number Deep at = refl
refusal-number Full at = refl

said-number : (f : ℕ) (s : List ℕ) (room : ℕ) (r : Reply ℕ) (st : State) (ns : List Node) → Read (said f s room r st ns)
said-number = said-any Read (λ c. refl) (λ c. refl) refusal-number

read_by : (f depth : ℕ) (s t : List ℕ) (room : ℕ) (g : Gate) → gate f depth s ≡ g → (g ≡ Ok tt → Read (demangled f depth s t room)) → Read (demangled f depth s t room)
unfolding demangled
read_by f depth s t room (Ok tt) e k = k refl
read_by f depth s t room (Err Call) e k = rw e
read_by f depth s t room (Err Symbol) e k = rw e
read_by f depth s t room (Err (High at)) e k = rw e

pub read-numbers : ReadNumbers
read-numbers f depth s t room =
    read_by f depth s t room (gate f depth s) refl
    (λ o. ap (says (0 ∷ 1 ∷ 2 ∷ 3 ∷ 4 ∷ 5 ∷ 6 ∷ 7 ∷ [])) (open-answers f depth s t o room) ∙ said-number f s room (whole s depth t).reply (whole s depth t).state (whole s depth t).cells)

-- the writer alone
abbrev Written : Answer → Type 0
Written a = says (0 ∷ 1 ∷ 2 ∷ 4 ∷ 6 ∷ 7 ∷ 8 ∷ []) a ≡ true

written-by : (g : Gate) (b d fit : Bool) (depth nodes room k : ℕ) → Written (through g (pick b (pick d (fitted 0 depth nodes room (pick fit (Some k) None)) (Err (TooDeep 0))) (Err BadTable)))
written-by (Ok tt) true true true depth nodes room k = refl
written-by (Ok tt) true true false depth nodes room k = refl
written-by (Ok tt) true false fit depth nodes room k = refl
written-by (Ok tt) false d fit depth nodes room k = refl
written-by (Err Call) b d fit depth nodes room k = refl
written-by (Err Symbol) b d fit depth nodes room k = refl
written-by (Err (High at)) b d fit depth nodes room k = refl

pub write-numbers : WriteNumbers
unfolding written_alone root_answer written
write-numbers f depth s t room = written-by (gate f depth s) (rooted (length s) t) (leb (root_height t) depth) (leb _ room) (root_height t) _ room _

-- the name question
named_by : (empty short : Bool) (high : Option ℕ) (is : Bool) → says (0 ∷ 1 ∷ 2 ∷ 8 ∷ []) (through (pick empty (Err Symbol) (pick short (low high) (Err Symbol))) (pick is (Ok (record { offset = 0; depth = 0; nodes = 0; text = 0 })) (Err BadTable))) ≡ true
named_by true short high is = refl
named_by false false high is = refl
named_by false true (Some at) is = refl
named_by false true None true = refl
named_by false true None false = refl

pub name-numbers : NameNumbers
unfolding name_answer symbol_gate
name-numbers s t n = named_by (eqb (length s) 0) (leb (length s) longest_symbol) (high_at s) (name_ok (length s) t n)
