-- Assumes nothing.
use Prim.Native.Nat.{ℕ, ◌+◌, ◌*◌, ◌-◌, ◌≤◌}
use mathlib.Core.List.{List, ◌++◌}
use mathlib.Core.Path.{◌≡◌, sym, ap, ◌∙◌}
use native.Mathlib.Omega.{arith}
use lib.ListN.{length, take, drop, drop_of_length-le}
use lib.Seq.{sets, sets-eq}
use borrow.Author.Tests.{lt-ltb}
use Rattle.std.proofs.lemmas.List.{append_assoc, drop-drop, length-take, length-drop}
use Rattle.node.specs.Cells.{stored, cells}
use Rattle.node.proofs.put_node.Goals as goal

pub returns-then-n-room : goal.returns-then-n-room
unfolding stored
returns-then-n-room c =
    let t = c.args.table.now in
    let at : ℕ = c.args.n * 12 in
    let twelve : at + 12 - at ≡ 12 = omega arith in
    let part : List ℕ = take 12 (drop at t) in
    let long : length part ≡ 12 = omega (arith, c.room.ensures, c.if-n-room.true, length-take 12 (drop at t), length-drop at t) in
    let past : length part ≤ 12 = omega (arith, long) in
    let filled : sets part 0 (cells c.args.x) ≡ cells c.args.x = sets-eq (cells c.args.x) part 0 (omega (arith, long)) ∙ ap (λ (l : List ℕ). cells c.args.x ++ l) (drop_of_length-le part past) in
    rw (twelve, sym c.room.ensures, lt-ltb _ _ c.if-n-room.true, append_assoc, drop-drop) (ap (λ (l : List ℕ). take at t ++ (l ++ drop (at + 12) t)) filled)
