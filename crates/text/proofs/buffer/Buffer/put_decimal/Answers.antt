-- Assumes nothing.
use Rattle.std.proofs.Common.{◌≡◌, ◌-◌, ◌^◌, ◌∙◌, arith}
use Rattle.text.proofs.Digits.{wrote-low, wrote-high}
use Rattle.text.proofs.buffer.Buffer.put_decimal.Goals as goal

pub returns-then-n-lt2147483648 : goal.returns-then-n-lt2147483648
returns-then-n-lt2147483648 c = (wrote-low _ c.if-n-lt2147483648.true c.put_unsigned.ensures.0, c.put_unsigned.ensures.1)

pub returns : goal.returns
returns c =
    let e : c.wrapping_neg.result ≡ 2 ^ 32 - c.args.n = omega (arith, c.wrapping_neg.ensures, c.if-n-lt2147483648.false, c.ranges.n.fits) in
    (wrote-high _ c.if-n-lt2147483648.false c.put.ensures.0 (rw e at c.put_unsigned-2.ensures.0), c.put_unsigned-2.ensures.1 ∙ c.put.ensures.1)
