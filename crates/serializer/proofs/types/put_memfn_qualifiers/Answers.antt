-- Assumes nothing.
use Rattle.std.proofs.Common.{◌≡◌, false, sym, ap, ◌∙◌}
use Rattle.scan.specs.Bytes.{pick}
use Rattle.text.specs.Emit.{Text, when}
use Rattle.text.specs.Spaces.{write_space, asks_by}
use Rattle.text.specs.Words.{word}
use Rattle.text.proofs.Seq.{writes-seq, writes-none, writes-is, writes-when}
use Rattle.letters.specs.StorageClass.{PTR64}
use Rattle.serializer.specs.Flags.{has, NO_MS_THISTYPE, NO_CV_THISTYPE, WITH_PTR64}
use Rattle.serializer.specs.Serializer.{write_memfn_qualifiers, write_one_qual}
use Rattle.serializer.proofs.types.put_memfn_qualifiers.Goals as goal
use Rattle.serializer.proofs.types.put_memfn_qualifiers.Goals.{else-has-via-then-has+else-has-2, else-has-via-else-has, then-has-3, else-has-3}

pub returns-then-has-2 : goal.returns-then-has-2
unfolding write_memfn_qualifiers
returns-then-has-2 c = rw (sym c.has.ensures ∙ c.if-has.true, sym c.has-then-has.ensures ∙ c.if-has-2.true) writes-none

pub returns : goal.returns
unfolding write_memfn_qualifiers write_one_qual write_space asks_by word
returns c =
    let shown : pick (has c.args.flags NO_MS_THISTYPE) (has c.args.flags NO_CV_THISTYPE) false ≡ false =
    elim c.else-has.branch [
      | else-has-via-then-has+else-has-2 w ↦ rw (sym c.has.ensures ∙ w.if-has.true, sym w.has-then-has.ensures ∙ w.if-has-2.false)
      | else-has-via-else-has w ↦ rw (sym c.has.ensures ∙ w.if-has.false)
    ] in
    let wide : (t : Text) → when (has c.args.flags WITH_PTR64) (when (has c.args.sc (PTR64)) t) ≡ when c.if-has-3.wide t =
    λ t. elim c.if-has-3.branch [
      | then-has-3 w ↦ rw (sym c.has-2.ensures ∙ w.if-has-3.true) (ap (λ b. when b t) (sym w.has-wide.ensures ∙ sym w.wide-is))
      | else-has-3 w ↦ rw (sym c.has-2.ensures ∙ w.if-has-3.false) (ap (λ b. when b t) (sym (w.wide-is ∙ w.if-has-3.false)))
    ] in
    rw shown (writes-seq (writes-when _ c.has-3.ensures c.put_apart_if.ensures) (writes-seq (writes-when _ c.has-4.ensures c.put_apart_if-2.ensures) (writes-seq (writes-is (wide _) c.put_apart_if-3.ensures) (writes-seq (writes-when _ c.has-5.ensures c.put_apart_if-4.ensures) (writes-seq (writes-when _ c.has-6.ensures c.put_apart_if-5.ensures) (writes-when _ c.has-7.ensures c.put_apart_if-6.ensures))))))
