-- Assumes nothing.
use Rattle.shapes.proofs.Endings.{alike-stored, values-else, values-when}
use native.Mathlib.Omega.{arith}
use Rattle.steps.proofs.Laws.{handed, values-expect}
use Rattle.shapes.proofs.Bounds.{hex-room}
use Rattle.steps.proofs.Leads.{leads-alike, leads-bad, leads-here, leads-ret, leads-value}
use mathlib.Core.Path.{refl}
use Rattle.steps.proofs.Choices.{values-fail, values-ret}
use Rattle.shapes.proofs.Begun.{values-hex}
use Rattle.grammar.specs.Grammar.{nested_of}
use borrow.Author.Tests.{eq-eqb, ne_eqb}
use Rattle.shapes.proofs.names.anonymous_id.Goals as goal

pub pass-requires : goal.pass-requires
pass-requires c = hex-room c.args.r.s.now c.args.st.now.at c.args.r.short (omega arith) c.read_hex_digits-n.ensures

pub returns-then-n-eq0 : goal.returns-then-n-eq0
unfolding nested_of
returns-then-n-eq0 c = leads-here (leads-value (values-hex c.read_hex_digits-n.ensures c.pass.ensures) refl (leads-bad (values-when (eq-eqb _ 0 c.if-n-eq0.true) values-fail) refl refl))

pub returns-in_err-expect : goal.returns-in_err-expect
unfolding nested_of
returns-in_err-expect c = leads-here (leads-value (values-hex c.read_hex_digits-n.ensures c.pass.ensures) refl (leads-value (values-else (ne_eqb _ 0 c.if-n-eq0.false) values-ret) refl (leads-bad (values-expect "@" c.expect.ensures) c.in_err-expect.was (handed c.from_residual.ensures))))

pub returns : goal.returns
unfolding nested_of
returns c = rw (c.saturating_sub.ensures, c.from-from.ensures) (leads-here (leads-value (values-hex c.read_hex_digits-n.ensures c.pass.ensures) refl (leads-value (values-else (ne_eqb _ 0 c.if-n-eq0.false) values-ret) refl (leads-value (values-expect "@" c.expect.ensures) c.in_ok-expect.was (leads-alike alike-stored leads-ret)))))
