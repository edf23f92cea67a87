-- The steps of the program, over the bytes that wait and the output that is owed. Assumes nothing.
use Prim.Native.Nat.{ℕ, suc, ◌+◌, ◌-◌, ◌≤◌, ◌<◌}
use mathlib.Core.Bool.{Bool, true, false}
use mathlib.Core.Path.{◌≡◌, refl, sym, ap, ap₂, ◌∙◌}
use mathlib.Core.List.{List, [], ◌∷◌, ◌++◌, append-nil, append_assoc}
use native.Mathlib.Decide.{dec_le}
use native.Mathlib.Omega.{arith}
use borrow.Author.Tests.{ltb-true, ltb-false}
use lib.Dec.{ltb, eqb}
use lib.ListN.{length, take, drop, length-append, length-drop, length-take}
use lib.Seq.{paste, length-take-le, drop-drop, drop_at, take_all, take-take, take-add}
use Rattle.scan.specs.Bytes.{pick}
use Rattle.text.specs.Emit.{Wrote, lit}
use Rattle.text.proofs.Cut.{length_cut, take-cut}
use Rattle.text.proofs.Seq.{place-fits}
use Rattle.answer_line.specs.Line.{line_of}
use Rattle.answer_line.proofs.Answers.{line-short}
use Rattle.lines.specs.Output.{newline_at, Open, output}
use Rattle.lines.specs.Steps.{Steps, Goes, Share}
use Rattle.std.specs.Prelude.{Some, None, ◌==◌, Option, cond, nat_lt, position}
use Rattle.std.specs.List.{position_or_len, copy_within}
use Rattle.std.proofs.lemmas.Bool.{cond-true, lt-ltb}
use Rattle.std.proofs.lemmas.List.Edits.{take-paste}
use Rattle.std.proofs.lemmas.List.{take_rest}
use Rattle.std.proofs.lemmas.List.Quantifiers.{position-Some}
use Rattle.std.proofs.lemmas.List.Recursion.{is_position_or_len}
use Rattle.std.proofs.lemmas.List.Sums.{position_or_len_is}
use Rattle.lines.proofs.Splits.{answers-first, last_line, no_line, cut_short, open-take}
use Rattle.answer_line.specs.Line.{longest_answer}
use Rattle.lines.specs.Steps.{kept_most}

-- what is written where there is room stands after what waits
module _ (w : List ℕ) {b b' : List ℕ} {o o' : ℕ} (v : Wrote (lit w) b o b' o') (h : o + length w ≤ length b) where
  pub put-place : o' ≡ o + length w
  unfolding lit
  put-place = v.out ∙ place-fits (length b) o (length w) h

  whole_length : length (take o b ++ w) ≡ o + length w
  whole_length = length-append (take o b) w ∙ ap (λ n. n + length w) (length-take-le o b (omega arith))

  pub put-bytes : take o' b' ≡ take o b ++ w
  unfolding lit
  put-bytes = ap₂ take (put-place ∙ sym whole_length) v.buf ∙ take-cut b (take o b ++ w) (omega (arith, whole_length))

-- one line more
module _ {b b' : List ℕ} {o o' : ℕ} (i : List ℕ) (at end : ℕ) (v : Wrote (lit (line_of (take (end - at) (drop at i)))) b o b' o')
    (room : o + longest_answer ≤ length b) (e : end ≡ at + newline_at (drop at i)) (l : end < length i) where
  abbrev line : List ℕ
  line = take (end - at) (drop at i)

  line-fits : o + length (line_of line) ≤ length b
  line-fits = omega (arith, line-short line)

  pub line-put : o' ≤ length b
  line-put = omega (arith, put-place (line_of line) v line-fits, line-fits)

  inside : newline_at (drop at i) < length (drop at i)
  inside = omega (arith, length-drop at i)

  is-line : end - at ≡ newline_at (drop at i)
  is-line = omega arith

  next : drop (suc (newline_at (drop at i))) (drop at i) ≡ drop (end + 1) i
  next = let q : at + suc (newline_at (drop at i)) ≡ end + 1 = omega arith in drop-drop (suc (newline_at (drop at i))) at i ∙ ap (λ n. drop n i) q

  pub line-owes : (more : List ℕ) → take o' b' ++ output (drop (end + 1) i ++ more) ≡ take o b ++ output (drop at i ++ more)
  line-owes more =
      ap (λ l. l ++ output (drop (end + 1) i ++ more)) (put-bytes (line_of line) v line-fits) ∙ append_assoc (take o b) (line_of line) (output (drop (end + 1) i ++ more))
      ∙ ap (λ l. take o b ++ l)
      (ap₂ (λ n r. line_of (take n (drop at i)) ++ output (r ++ more)) is-line (sym next) ∙ sym (answers-first (drop at i) more inside))

-- the rest at the end
module _ (s : List ℕ) {b b' : List ℕ} {o o' : ℕ} (v : Wrote (lit (line_of s)) b o b' o') (room : o + longest_answer ≤ length b) where
  rest-fits : o + length (line_of s) ≤ length b
  rest-fits = omega (arith, line-short s)

  same-room : length b' ≡ length b
  same-room = ap length v.buf ∙ length_cut b _

  pub rest_put : o' ≤ length b'
  rest_put = omega (arith, put-place (line_of s) v rest-fits, rest-fits, same-room)

  pub rest-owes : Open s → (length s ≡ 0 → ⊥) → take o' b' ≡ take o b ++ output s
  rest-owes p n = put-bytes (line_of s) v rest-fits ∙ ap (λ l. take o b ++ l) (sym (last_line s p n))

pub none_owes : (s l : List ℕ) → length s ≡ 0 → l ≡ l ++ output s
none_owes s l n = sym (ap (λ x. l ++ x) (no_line s n) ∙ append-nil l)

pub piece-within : {k n : ℕ} (i : List ℕ) → n ≤ length i → k ≤ length (take n i) → k ≤ n
piece-within {k} {n} i h l = omega (arith, length-take-le n i h)

-- what is kept of the rest: of the n bytes of i those from `at` on, r bytes at the beginning of i'
module _ (i i' : List ℕ) (at n r : ℕ) (full : Bool) (share : Share (n - at) full r) (moved : take r i' ≡ take r (drop at i)) (h : at ≤ n) (k : n ≤ length i) where
  abbrev rest : List ℕ
  rest = take (n - at) (drop at i)

  rest-is : drop at (take n i) ≡ rest
  rest-is =
      let e : n ≡ at + (n - at) = omega arith in
      ap (λ x. drop at (take x i)) e ∙ ap (drop at) (take-add at (n - at) i) ∙ drop_at (take at i) rest at (length-take-le at i (omega arith))

  short-is : full ≡ false → take r i' ≡ take kept_most rest
  short-is f = moved ∙ by (dec_le (n - at) kept_most)
    where
      by : Dec (n - at ≤ kept_most) → take r (drop at i) ≡ take kept_most rest
      by (yes q) =
          let c : r ≡ n - at = omega (arith, share.short f) in
          ap (λ x. take x (drop at i)) c ∙ sym (take_all kept_most rest (omega (arith, length-take (n - at) (drop at i))))
      by (no q) =
          let c : r ≡ kept_most = omega (arith, share.short f, q) in
          ap (λ x. take x (drop at i)) c ∙ sym (take-take kept_most (n - at) (drop at i) (omega (arith, q)))

  module _ (o : full ≡ false → Open (drop at (take n i))) where
    pub kept-begun : full ≡ false → Open (take r i')
    kept-begun f =
        let p : Open (take kept_most rest) = open-take kept_most rest (rw rest-is at (o f)) in
        rw (short-is f) p

    -- what is owed for it is what was owed for the rest
    kept-owes : (more : List ℕ) → output (take r i' ++ more) ≡ output (drop at (take n i) ++ more)
    kept-owes more = by full refl ∙ ap (λ x. output (x ++ more)) (sym rest-is)
      where
        by : (b : Bool) → full ≡ b → output (take r i' ++ more) ≡ output (rest ++ more)
        by true f = ap (λ x. output (x ++ more)) (moved ∙ ap (λ x. take x (drop at i)) (share.whole f))
        by false f = ap (λ x. output (x ++ more)) (short-is f) ∙ cut_short rest more (rw rest-is at (o f))

    pub step-owes : (kept came : ℕ) {b b' : List ℕ} {used put : ℕ} → n ≡ kept + came → Goes (take n i) b used b' at put → Steps (take kept i) (take used b) (take came (drop kept i)) (take r i') (take put b')
    step-owes kept came {b} {b'} {used} {put} e g = record { owes = λ more. ap (λ x. take put b' ++ x) (kept-owes more) ∙ g.owes more ∙ ap (λ x. take used b ++ output (x ++ more)) (ap (λ x. take x i) e ∙ take-add kept came i) }

-- where there is room for an answer no line is left, and where there is none something waits
pub room_open : {p b b' : List ℕ} {used at put m : ℕ} → Goes p b used b' at put → m ≡ length b → ltb (m - put) longest_answer ≡ false → Open (drop at p)
room_open {put = put} {m = m} g e f = g.ends (omega (arith, ltb-false (m - put) longest_answer f))

pub room_waits : (m l used put : ℕ) → m ≡ l → used + longest_answer ≤ l → ltb (m - put) longest_answer ≡ true → 0 < put
room_waits m l used put e h f = omega (arith, ltb-true (m - put) longest_answer f)

-- `position` finds the first newline, where there is one
newline_place : (s : List ℕ) → newline_at s ≡ position_or_len (λ c. c == 10) s
unfolding newline_at
newline_place = is_position_or_len newline_at (λ c. c == 10) refl (λ x xs. by (eqb x 10) (newline_at xs))
  where
    by : (b : Bool) (n : ℕ) → pick b 0 (suc n) ≡ cond b 0 (1 + n)
    by true n = refl
    by false n = omega arith

first-newline : (s : List ℕ) (n : ℕ) → position (λ c. c == 10) s ≡ Some n → (newline_at s ≡ n) × (n < length s)
first-newline s n e =
    let h = position-Some (λ c. c == 10) s n 0 e in
    (newline_place s ∙ position_or_len_is (λ c. c == 10) s n 0 (omega (arith, h.0)) h.2 (λ _. h.1), h.0)

newline-within : (s : List ℕ) → newline_at s ≤ length s
unfolding newline_at
newline-within [] = omega arith
newline-within (c ∷ s) = by (eqb c 10) (newline-within s)
  where
    by : (b : Bool) → newline_at s ≤ length s → pick b 0 (suc (newline_at s)) ≤ suc (length s)
    by true h = omega arith
    by false h = omega arith

no-newline : (s : List ℕ) → position (λ c. c == 10) s ≡ None → Open s
no-newline s e = by (dec_le (length s) (newline_at s))
  where
    k : ℕ
    k = position_or_len (λ c. c == 10) s

    by : Dec (length s ≤ newline_at s) → newline_at s ≡ length s
    by (yes h) = omega (arith, h, newline-within s)
    by (no h) =
        let q : nat_lt k (length s) ≡ true = lt-ltb k (length s) (omega (arith, h, newline_place s)) in
        let z : ◌≡◌ {A = Option ℕ} (Some k) None = sym (cond-true (nat_lt k (length s)) (Some k) None q) ∙ e in absurd (cc)

-- the same in the input from a place on
pub newline_found : (i : List ℕ) (at n : ℕ) → Some n ≡ position (λ c. c == 10) (take (length i - at) (drop at i)) → (newline_at (drop at i) ≡ n) × (n < length (drop at i))
newline_found i at n e = first-newline (drop at i) n (sym (e ∙ ap (position (λ c. c == 10)) (take_rest i at)))

pub newline_missed : (i : List ℕ) (at : ℕ) → None ≡ position (λ c. c == 10) (take (length i - at) (drop at i)) → Open (drop at i)
newline_missed i at e = no-newline (drop at i) (sym (e ∙ ap (position (λ c. c == 10)) (take_rest i at)))

-- the rest of the input, moved to its beginning
pub moved_front : (i i' : List ℕ) (at r : ℕ) → i' ≡ copy_within i at (at + r) 0 → at + r ≤ length i → take r i' ≡ take r (drop at i)
moved_front i i' at r e h =
    let same : at + r - at ≡ r = omega arith in
    let whole : r ≡ 0 + r = omega arith in
    ap (take r) e ∙ ap (λ k. take r (paste i 0 (drop at i) k)) same ∙ ap (λ k. take k (paste i 0 (drop at i) r)) whole ∙ take-paste i 0 (drop at i) r (omega arith) (omega (arith, length-drop at i))
