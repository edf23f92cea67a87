-- Assumes nothing.
use Rattle.std.proofs.Common.{◌≡◌, sym, ap, ◌∙◌, ◌+◌, ◌-◌, arith, drop}
use Rattle.std.proofs.lemmas.Result.{err_from_is_err_and}
use Rattle.scan.specs.Number.{magnitude, digits}
use Rattle.scan.specs.Cursor.{get_byte}
use Rattle.scan.proofs.Laws.{got, ended, refused-at, digit-low}
use Rattle.scan.proofs.Numbers.{magnitude-letters}
use Rattle.scan.proofs.number.read_magnitude.Goals as goal

pub returns-in_err-c : goal.returns-in_err-c
unfolding magnitude
returns-in_err-c c =
    let p = err_from_is_err_and c.from_residual.result c.from_residual.ensures.1 in
    rw (← c.sign_len-before.ensures, ended _ (sym c.get.ensures ∙ c.in_err-c.ensures.ok_part), p.1, p.2, refused-at _ c.in_err-c.ensures.value c.in_err-c.ensures.ok_part, c.sign_len-before.ensures)

pub returns-then-is_digit : goal.returns-then-is_digit
unfolding magnitude
returns-then-is_digit c =
    let is = sym c.is_digit.ensures ∙ c.if-is_digit.true in
    let value : c.in_ok-c.c - 48 + 1 ≡ c.in_ok-c.c - 47 = omega (arith, digit-low c.in_ok-c.c is) in
    rw (← c.sign_len-before.ensures, got _ (sym c.get.ensures ∙ c.in_ok-c.ensures.ok_part), is, value, c.signed_bits.ensures, c.sign_len-before.ensures)

pub returns-in_err-v : goal.returns-in_err-v
returns-in_err-v c =
    let place = sym c.sign_len-before.ensures in
    let p = err_from_is_err_and c.from_residual-in_err-v.result c.from_residual-in_err-v.ensures.1 in
    rw (magnitude-letters c.args.neg _ (ap (λ n. get_byte (drop (c.args.at + n) c.args.s.now)) place ∙ sym c.get.ensures ∙ c.in_ok-c.ensures.ok_part) (sym c.is_digit.ensures ∙ c.if-is_digit.false), ap (λ n. digits 65 16 n 0 (drop (c.args.at + n) c.args.s.now)) place ∙ sym c.read_digits.ensures ∙ c.in_err-v.was, p.1, p.2)

pub returns : goal.returns
returns c =
    let place = sym c.sign_len-before.ensures in
    rw (magnitude-letters c.args.neg _ (ap (λ n. get_byte (drop (c.args.at + n) c.args.s.now)) place ∙ sym c.get.ensures ∙ c.in_ok-c.ensures.ok_part) (sym c.is_digit.ensures ∙ c.if-is_digit.false), ap (λ n. digits 65 16 n 0 (drop (c.args.at + n) c.args.s.now)) place ∙ sym c.read_digits.ensures ∙ c.in_ok-v.was, c.signed_bits-2.ensures)
