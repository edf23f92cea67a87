-- Assumes nothing.
use Rattle.shapes.proofs.Endings.{alike-first, alike-stored, leads-inner}
use Rattle.steps.proofs.Laws.{handed}
use Rattle.steps.proofs.Leads.{leads-alike, leads-bad, leads-here, leads-met, leads-ret, leads-unmet, leads-value}
use Rattle.grammar.specs.Grammar.{unqualified_body, plain_name}
use Rattle.shapes.proofs.names.unqualified_shape.Goals as goal

pub returns-then-consume : goal.returns-then-consume
unfolding unqualified_body plain_name
returns-then-consume c = λ function. leads-met "?$" c.consume.ensures c.if-consume.true leads-ret

pub returns-then-consume-2 : goal.returns-then-consume-2
unfolding unqualified_body plain_name
returns-then-consume-2 c = λ function. leads-unmet "?$" c.consume.ensures c.if-consume.false (leads-met "?" c.consume-2.ensures c.if-consume-2.true leads-ret)

pub returns-in_err-n : goal.returns-in_err-n
unfolding unqualified_body plain_name
returns-in_err-n c = λ function. leads-unmet "?$" c.consume.ensures c.if-consume.false (leads-unmet "?" c.consume-2.ensures c.if-consume-2.false (leads-inner (leads-here (leads-inner (leads-bad c.string.ensures c.in_err-n.was (handed c.from_residual.ensures))))))

pub returns : goal.returns
unfolding unqualified_body plain_name
returns c = λ function. rw (c.saturating_sub.ensures, c.from-from.ensures) (leads-unmet "?$" c.consume.ensures c.if-consume.false (leads-unmet "?" c.consume-2.ensures c.if-consume-2.false (leads-inner (leads-here (leads-inner (leads-value c.string.ensures c.in_ok-n.was (leads-alike (alike-first alike-stored) leads-ret)))))))
