-- Assumes nothing.
use Prim.Native.Nat.{◌+◌, ◌≤◌}
use mathlib.Core.Path.{refl}
use lib.ListN.{length}
use native.Mathlib.Omega.{arith}
use Rattle.lines.proofs.Steps.{piece-within, kept-begun, step-owes, room_open, room_waits, moved_front}
use Rattle.lines.proofs.step.Goals as goal

pub returns-clause-steps : goal.returns-clause-steps
returns-clause-steps c =
    let i = c.args.input.now in
    let at = c.answer_lines-place.result.at in
    let h = piece-within i c.requires.came_in_bounds c.answer_lines-place.ensures.within in
    let b : at + c.share-count.result ≤ length i = omega (arith, c.share-count.ensures.within, h) in
    step-owes i c.copy_within.new.self at (c.args.w.kept + c.args.came) c.share-count.result _ c.share-count.ensures (moved_front i _ at _ c.copy_within.ensures.after b) h c.requires.came_in_bounds
    (room_open c.answer_lines-place.ensures c.answer_lines-place.auto.out) _ _ refl c.answer_lines-place.ensures

pub returns-clause-ready : goal.returns-clause-ready
returns-clause-ready c =
    let i = c.args.input.now in
    let at = c.answer_lines-place.result.at in
    let h = piece-within i c.requires.came_in_bounds c.answer_lines-place.ensures.within in
    let b : at + c.share-count.result ≤ length i = omega (arith, c.share-count.ensures.within, h) in
    record {
      within = omega (arith, c.share-count.ensures.within, h, c.copy_within.ensures.len);
      fits = omega (arith, c.answer_lines-place.ensures.fits, c.answer_lines-place.auto);
      begun = kept-begun i c.copy_within.new.self at (c.args.w.kept + c.args.came) c.share-count.result _ c.share-count.ensures (moved_front i _ at _ c.copy_within.ensures.after b) h c.requires.came_in_bounds (room_open c.answer_lines-place.ensures c.answer_lines-place.auto.out);
      small = λ f. omega (arith, c.share-count.ensures.short f);
      waits = room_waits _ _ c.args.w.used _ c.answer_lines-place.auto.out c.requires.longest_answer_in_bounds;
    }
