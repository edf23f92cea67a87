-- The lines of an input that comes in pieces. Assumes nothing.
--     first-line     a newline ends a line
--     carried        bytes with no newline are the beginning of a line
--     cut_short      of a line that is too long its beginning is enough
--     last_line      a rest that is not empty is a line
use Prim.Native.Nat.{ℕ, zero, suc, ◌≤◌, ◌<◌}
use mathlib.Core.Bool.{Bool, true, false}
use mathlib.Core.Path.{◌≡◌, refl, sym, ap, ◌∙◌}
use mathlib.Core.List.{List, [], ◌∷◌, ◌++◌, append-nil}
use native.Mathlib.Decide.{dec_le}
use native.Mathlib.Omega.{arith}
use borrow.Author.Tests.{ne_eqb}
use lib.Dec.{eqb}
use lib.ListN.{length, take, drop, length-append}
use lib.Seq.{append_snoc, take_all, length-take-le}
use Rattle.scan.specs.Bytes.{pick}
use Rattle.answer_line.proofs.Answers.{long-line}
use Rattle.answer_line.specs.Line.{line_of}
use Rattle.lines.specs.Output.{newline_at, Open, lines_from, answers_to, output}
use Rattle.scan.specs.Limits.{longest_symbol}
use Rattle.lines.specs.Steps.{kept_most}

-- a newline ends a line
abbrev FirstLine : List ℕ → List ℕ → List ℕ → ℕ → Type 0
FirstLine line s more e = lines_from line (s ++ more) ≡ (line ++ take e s) ∷ lines_from [] (drop (suc e) s ++ more)

pub first-line : (line s more : List ℕ) → newline_at s < length s → FirstLine line s more (newline_at s)
unfolding newline_at lines_from
first-line line [] more h = absurd (omega arith)
first-line line (c ∷ s) more h = by (eqb c 10) h (first-line (line ++ (c ∷ [])) s more)
  where
    by : (b : Bool) → pick b 0 (suc (newline_at s)) < suc (length s) → (newline_at s < length s → FirstLine (line ++ (c ∷ [])) s more (newline_at s)) →
        pick b (line ∷ lines_from [] (s ++ more)) (lines_from (line ++ (c ∷ [])) (s ++ more))
        ≡ (line ++ take (pick b 0 (suc (newline_at s))) (c ∷ s)) ∷ lines_from [] (drop (suc (pick b 0 (suc (newline_at s)))) (c ∷ s) ++ more)
    by true h k = rw append-nil
    by false h k = k (omega arith) ∙ ap (λ (l : List ℕ). l ∷ lines_from [] (drop (suc (newline_at s)) s ++ more)) (append_snoc line c (take (newline_at s) s))

-- a byte of an open list is no newline, and the others are open
open-cons : (c : ℕ) (s : List ℕ) → Open (c ∷ s) → (eqb c 10 ≡ false) × Open s
unfolding newline_at
open-cons c s h = by (eqb c 10) h
  where
    by : (b : Bool) → pick b 0 (suc (newline_at s)) ≡ suc (length s) → (b ≡ false) × (newline_at s ≡ length s)
    by true h = absurd (omega (arith, h))
    by false h = (refl, omega (arith, h))

-- bytes with no newline are the beginning of a line
carried-byte : (line : List ℕ) (c : ℕ) (s : List ℕ) → eqb c 10 ≡ false → lines_from line (c ∷ s) ≡ lines_from (line ++ (c ∷ [])) s
unfolding lines_from
carried-byte line c s e = rw e

pub carried : (line s more : List ℕ) → Open s → lines_from line (s ++ more) ≡ lines_from (line ++ s) more
carried line [] more h = rw append-nil
carried line (c ∷ s) more h =
    let o = open-cons c s h in
    carried-byte line c (s ++ more) o.0 ∙ carried (line ++ (c ∷ [])) s more o.1 ∙ ap (λ (l : List ℕ). lines_from l more) (append_snoc line c s)

pub open-take : (k : ℕ) (s : List ℕ) → Open s → Open (take k s)
unfolding newline_at
open-take zero s h = refl
open-take (suc k) [] h = refl
open-take (suc k) (c ∷ s) h = let o = open-cons c s h in rw o.0 (ap suc (open-take k s o.1))

-- of a line that is too long its beginning is enough
long_same : (a b more : List ℕ) → longest_symbol < length a → longest_symbol < length b → answers_to (lines_from a more) ≡ answers_to (lines_from b more)
unfolding lines_from answers_to
long_same a b [] h k = rw (ne_eqb (length a) 0 (λ e. omega arith), ne_eqb (length b) 0 (λ e. omega arith), long-line a h, long-line b k)
long_same a b (c ∷ s) h k = by (eqb c 10) (long_same (a ++ (c ∷ [])) (b ++ (c ∷ [])) s (omega (arith, length-append a (c ∷ []))) (omega (arith, length-append b (c ∷ []))))
  where
    by : (t : Bool) → answers_to (lines_from (a ++ (c ∷ [])) s) ≡ answers_to (lines_from (b ++ (c ∷ [])) s) →
        answers_to (pick t (a ∷ lines_from [] s) (lines_from (a ++ (c ∷ [])) s)) ≡ answers_to (pick t (b ∷ lines_from [] s) (lines_from (b ++ (c ∷ [])) s))
    by true e = rw (long-line a h, long-line b k)
    by false e = e

pub cut_short : (s more : List ℕ) → Open s → output (take kept_most s ++ more) ≡ output (s ++ more)
unfolding output
cut_short s more o = by (dec_le (length s) kept_most)
  where
    by : Dec (length s ≤ kept_most) → answers_to (lines_from [] (take kept_most s ++ more)) ≡ answers_to (lines_from [] (s ++ more))
    by (yes h) = rw (take_all kept_most s h)
    by (no n) =
        let e : length (take kept_most s) ≡ kept_most = length-take-le kept_most s (omega (arith, n)) in
        ap answers_to (carried [] (take kept_most s) more (open-take kept_most s o)) ∙ long_same (take kept_most s) s more (omega arith) (omega (arith, n)) ∙ ap answers_to (sym (carried [] s more o))

-- the answer to the first line, and the output of what follows it
pub answers-first : (s more : List ℕ) → newline_at s < length s → output (s ++ more) ≡ line_of (take (newline_at s) s) ++ output (drop (suc (newline_at s)) s ++ more)
unfolding output answers_to
answers-first s more h = ap answers_to (first-line [] s more h)

-- a rest that is not empty is a line
pub last_line : (s : List ℕ) → Open s → (length s ≡ 0 → ⊥) → output s ≡ line_of s
unfolding output answers_to lines_from
last_line s o h = ap (λ (l : List ℕ). answers_to (lines_from [] l)) (sym (append-nil s)) ∙ ap answers_to (carried [] s [] o) ∙ rw (ne_eqb (length s) 0 h) (append-nil (line_of s))

pub no_line : (s : List ℕ) → length s ≡ 0 → output s ≡ []
unfolding output answers_to lines_from
no_line [] h = refl
no_line (c ∷ s) h = absurd (omega (arith, h))
