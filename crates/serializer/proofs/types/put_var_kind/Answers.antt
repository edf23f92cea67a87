-- Assumes nothing.
use Rattle.text.proofs.Seq.{writes-none, writes-is}
use Rattle.serializer.proofs.Spelled.{var-kind-is, no-var-kind}
use Rattle.serializer.proofs.types.put_var_kind.Goals as goal

pub returns-then-kind-gt-PUBLIC_STATIC : goal.returns-then-kind-gt-PUBLIC_STATIC
returns-then-kind-gt-PUBLIC_STATIC c = writes-is (no-var-kind _ c.if-kind-gt-PUBLIC_STATIC.true) writes-none

pub returns : goal.returns
returns c = writes-is (var-kind-is _ c.if-kind-gt-PUBLIC_STATIC.false) c.put_word.ensures
