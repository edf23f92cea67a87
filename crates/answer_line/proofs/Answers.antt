-- The line that answers a line. Assumes nothing.
--     long-line      a line that is too long is refused 1
--     text-fits      an answered text fits its room
--     same_line      old contents of table and text do not affect it
--     line-short     it has at most 4,100 bytes
use Prim.Native.Nat.{ℕ, zero, suc, ◌+◌, ◌/◌, ◌%◌, ◌≤◌, ◌<◌}
use mathlib.Core.Bool.{Bool, true, false}
use mathlib.Core.Path.{◌≡◌, refl, sym, ap, ◌∙◌}
use mathlib.Core.List.{List, [], ◌∷◌}
use native.Mathlib.Omega.{arith}
use borrow.Author.Tests.{ne_eqb, lt-leb}
use lib.Dec.{ltb}
use lib.ListN.{length, take, length-append, length-take, length-replicate}
use Rattle.scan.specs.Bytes.{pick}
use Rattle.node.specs.Cells.{nodes}
use Rattle.text.specs.Decimal.{digits}
use Rattle.farthingmoss.specs.declared.Counts.{Counts}
use Rattle.std.specs.Prelude.{Ok, Err}
use Rattle.farthingmoss.specs.Call.{Answer, demangled, text_after}
use Rattle.gates.specs.Gates.{known_flags, symbol_gate, gate}
use Rattle.promises.specs.Promises.{own_text}
use Rattle.promises.proofs.Kept.{kept}
use Rattle.answer_line.specs.Line.{decimal, ok_line, no_line, answer_line, table, text, line_of, line_cells, line_text, longest_answer}
use Rattle.scan.specs.Limits.{longest_symbol, deepest_reading}

-- a line that is too long is refused 1
pub long-line : (s : List ℕ) → longest_symbol < length s → line_of s ≡ no_line 1 0
unfolding line_of demangled gate known_flags symbol_gate
long-line s h = rw (ne_eqb (length s) 0 (λ e. omega arith), lt-leb (length s) longest_symbol h)

-- an answered text fits its room
pub text-fits : (f depth : ℕ) (s t : List ℕ) (room : ℕ) (c : Counts) → demangled f depth s t room ≡ Ok c → c.text ≤ room
text-fits f depth s t room c e =
    let a = (kept.accepts f depth s t room c).0 e in
    let q : c.text ≡ length (own_text f s a.root) = ap (λ (x : Counts). x.text) a.counts in
    omega (arith, a.fits)

module _ (s t b : List ℕ) (n : nodes t ≡ nodes table) (m : length b ≡ line_text) where
  same_text : (c : Counts) → demangled 0 deepest_reading s table line_text ≡ Ok c → take c.text (text_after 0 deepest_reading s t b) ≡ take c.text (text_after 0 deepest_reading s table text)
  unfolding text
  same_text c e =
      let room : length text ≡ line_text = length-replicate {A = ℕ} line_text 0 in
      sym ((kept.old-contents 0 deepest_reading s table t (sym n)).1 text b c (room ∙ sym m) (ap (demangled 0 deepest_reading s table) room ∙ e))

  by_answer : (a : Answer) → demangled 0 deepest_reading s table line_text ≡ a → answer_line a (text_after 0 deepest_reading s t b) ≡ answer_line a (text_after 0 deepest_reading s table text)
  by_answer (Ok c) e = ap ok_line (same_text c e)
  by_answer (Err why) e = refl

  -- old contents of table and text do not affect it
  pub same_line : answer_line (demangled 0 deepest_reading s t (length b)) (text_after 0 deepest_reading s t b) ≡ line_of s
  unfolding line_of
  same_line =
      ap (λ k. answer_line (demangled 0 deepest_reading s t k) (text_after 0 deepest_reading s t b)) m
      ∙ ap (λ (a : Answer). answer_line a (text_after 0 deepest_reading s t b)) ((kept.old-contents 0 deepest_reading s t table n).0 line_text)
      ∙ by_answer (demangled 0 deepest_reading s table line_text) refl

pub table-nodes : (t : List ℕ) → length t ≡ line_cells → nodes t ≡ nodes table
unfolding table
table-nodes t e = ap (λ n. n / 12) (e ∙ sym (length-replicate {A = ℕ} line_cells 0))

-- at most so many bytes
digits-short : (k n : ℕ) (acc : List ℕ) → length (digits k n acc) ≤ k + length acc
unfolding digits
digits-short zero n acc = omega arith
digits-short (suc k) n acc = by (ltb n 10) (digits-short k (n / 10) ((48 + n % 10) ∷ acc))
  where
    by : (b : Bool) → length (digits k (n / 10) ((48 + n % 10) ∷ acc)) ≤ k + suc (length acc) → length (pick b ((48 + n % 10) ∷ acc) (digits k (n / 10) ((48 + n % 10) ∷ acc))) ≤ suc k + length acc
    by true h = omega arith
    by false h = omega arith

decimal-short : (n : ℕ) → length (decimal n) ≤ 20
unfolding decimal
decimal-short n = omega (arith, digits-short 20 n [])

ok-short : (t : List ℕ) → length (ok_line t) ≡ length t + 4
unfolding ok_line
ok-short t = simp length-append (omega arith)

no_short : (number offset : ℕ) → length (no_line number offset) ≤ longest_answer
unfolding no_line
no_short number offset = simp length-append (omega (arith, decimal-short number, decimal-short offset))

take_short : (n : ℕ) (l : List ℕ) → length (take n l) ≤ n
take_short n l = rw (length-take n l) (omega arith)

pub line-short : (s : List ℕ) → length (line_of s) ≤ longest_answer
unfolding line_of
line-short s = by (demangled 0 deepest_reading s table line_text) refl
  where
    b : List ℕ
    b = text_after 0 deepest_reading s table text

    by : (a : Answer) → demangled 0 deepest_reading s table line_text ≡ a → length (answer_line a b) ≤ longest_answer
    by (Ok c) e = omega (arith, ok-short (take c.text b), take_short c.text b, text-fits 0 deepest_reading s table line_text c e)
    by (Err why) e = no_short _ _
