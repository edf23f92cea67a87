-- Assumes nothing.
use Rattle.steps.proofs.Says.{digits, digit_room}
use Rattle.steps.proofs.reader.Reader.digit.Goals as goal

pub pass-requires : goal.pass-requires
pass-requires c = digit_room c.args.self.s.now c.args.st.now.at c.args.self.short c.read_digit.ensures c.in_ok-d.was

pub returns-in_err-d : goal.returns-in_err-d
returns-in_err-d c = digits c.read_digit.ensures c.in_err-d.was (rw c.from_residual.ensures)

pub returns : goal.returns
returns c = digits c.read_digit.ensures c.in_ok-d.was (rw (c.from.ensures, c.pass.ensures))
