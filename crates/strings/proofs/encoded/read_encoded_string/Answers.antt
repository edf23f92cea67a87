-- Assumes nothing.
use mathlib.Core.Path.{sym, ◌∙◌}
use native.Mathlib.Omega.{arith}
use Rattle.std.proofs.lemmas.Result.{err_from_is_err_and}
use Rattle.strings.specs.Encoded.{read_encoded_string}
use Rattle.strings.proofs.Characters.{checksum-place, chars-place, refused-place, encoded-chars, encoded-bad}
use Rattle.strings.proofs.encoded.read_encoded_string.Goals as goal

pub overflow_add-at : goal.overflow_add-at
overflow_add-at c = record { fits = omega (arith, checksum-place c.args.s.now c.args.at (sym c.read_number.ensures ∙ c.in_ok-length.was)) }

pub overflow_add-at-in-Ok : goal.overflow_add-at-in-Ok
overflow_add-at-in-Ok c = record { fits = omega (arith, chars-place c.args.s.now c.args.at (sym c.read_number.ensures ∙ c.in_ok-length.was) (sym c.read_number-2.ensures ∙ c.in-Ok.is)) }

pub overflow_add-at-in-Ok-2 : goal.overflow_add-at-in-Ok-2
overflow_add-at-in-Ok-2 c = record { fits = omega (arith, chars-place c.args.s.now c.args.at (sym c.read_number.ensures ∙ c.in_ok-length.was) (sym c.read_number-2.ensures ∙ c.in-Ok.is)) }

pub overflow_add-a : goal.overflow_add-a
overflow_add-a c = record { fits = omega (arith, chars-place c.args.s.now c.args.at (sym c.read_number.ensures ∙ c.in_ok-length.was) (sym c.read_number-2.ensures ∙ c.in-Ok.is)) }

pub read_strung-requires : goal.read_strung-requires
read_strung-requires c = (omega arith, chars-place c.args.s.now c.args.at (sym c.read_number.ensures ∙ c.in_ok-length.was) (sym c.read_number-2.ensures ∙ c.in-Ok.is))

pub overflow_add-result : goal.overflow_add-result
overflow_add-result c = record { fits = omega (arith, refused-place c.args.s.now c.args.at (sym c.read_number.ensures ∙ c.in_ok-length.was) (sym c.read_number-2.ensures ∙ c.in-Err.is)) }

pub returns-in_err-length : goal.returns-in_err-length
unfolding read_encoded_string
returns-in_err-length c =
    let p = err_from_is_err_and c.from_residual.result c.from_residual.ensures.1 in
    rw (sym c.read_number.ensures ∙ c.in_err-length.was, p.1, p.2)

pub returns-in-Ok : goal.returns-in-Ok
returns-in-Ok c = c.read_strung.ensures ∙ sym (encoded-chars c.args.s.now c.args.at (sym c.read_number.ensures ∙ c.in_ok-length.was) c.args.width (sym c.read_number-2.ensures ∙ c.in-Ok.is))

pub returns-in-Err : goal.returns-in-Err
returns-in-Err c = sym (encoded-bad c.args.s.now c.args.at (sym c.read_number.ensures ∙ c.in_ok-length.was) c.args.width (sym c.read_number-2.ensures ∙ c.in-Err.is))
