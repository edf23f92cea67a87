-- Assumes nothing.
use native.Mathlib.Omega.{arith}
use Rattle.shapes.proofs.Bounds.{encoded-room}
use Rattle.shapes.proofs.Begun.{leads-chars, no-chars}
use Rattle.shapes.proofs.symbols.characters.Goals as goal

pub pass-requires : goal.pass-requires
pass-requires c = (encoded-room c.args.r.s.now c.args.st.now.at c.args.r.short (omega arith) c.args.width c.read_encoded_string.ensures c.in-Ok.is).1

pub overflow_cast-result : goal.overflow_cast-result
overflow_cast-result c = omega (arith, (encoded-room c.args.r.s.now c.args.st.now.at c.args.r.short (omega arith) c.args.width c.read_encoded_string.ensures c.in-Ok.is))

pub overflow_add-result : goal.overflow_add-result
overflow_add-result c = omega (arith, (encoded-room c.args.r.s.now c.args.st.now.at c.args.r.short (omega arith) c.args.width c.read_encoded_string.ensures c.in-Ok.is))

pub overflow_sub-result : goal.overflow_sub-result
overflow_sub-result c = omega (arith, (encoded-room c.args.r.s.now c.args.st.now.at c.args.r.short (omega arith) c.args.width c.read_encoded_string.ensures c.in-Ok.is))

pub overflow_cast-result-in-Ok : goal.overflow_cast-result-in-Ok
overflow_cast-result-in-Ok c = omega (arith, (encoded-room c.args.r.s.now c.args.st.now.at c.args.r.short (omega arith) c.args.width c.read_encoded_string.ensures c.in-Ok.is))

pub pass-requires-in-Err : goal.pass-requires-in-Err
pass-requires-in-Err c = (encoded-room c.args.r.s.now c.args.st.now.at c.args.r.short (omega arith) c.args.width c.read_encoded_string.ensures c.in-Err.is)

pub returns-in-Ok : goal.returns-in-Ok
returns-in-Ok c = rw (c.pass.ensures, c.from.ensures) (leads-chars c.args.width c.read_encoded_string.ensures c.in-Ok.is)

pub returns-in-Err : goal.returns-in-Err
returns-in-Err c = rw c.pass-in-Err.ensures (no-chars c.args.width c.read_encoded_string.ensures c.in-Err.is)
