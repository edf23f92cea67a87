-- Assumes nothing.
use Prim.Native.Nat.{ℕ, ◌*◌, ◌≤◌}
use mathlib.Core.List.{List, ◌++◌}
use mathlib.Core.Path.{◌≡◌, sym, ap, ◌∙◌}
use lib.ListN.{length, drop, replicate}
use lib.Seq.{length-take-le}
use Rattle.reader.proofs.Answers.{told-found, told-refused, counted-fits}
use Rattle.reader.proofs.read.Goals as goal

pub slice_bounds-fill-end : goal.slice_bounds-fill-end
slice_bounds-fill-end c = counted-fits c.if-limit-gt-DEEPEST_READING.false c.room_of.ensures c.parse.ensures

pub slice_bounds-fill-end-in-Err : goal.slice_bounds-fill-end-in-Err
slice_bounds-fill-end-in-Err c = sym (length-take-le _ _ (counted-fits c.if-limit-gt-DEEPEST_READING.false c.room_of.ensures c.parse.ensures))

pub returns-in-Ok : goal.returns-in-Ok
returns-in-Ok c =
    let told = told-found c.if-limit-gt-DEEPEST_READING.false c.room_of.ensures c.parse.ensures c.in-Ok.is in
    record { value = told.0; t_after = told.1 }

pub returns-in-Err : goal.returns-in-Err
returns-in-Err c =
    let n = c.parse.new.st.used * 12 in
    let fits : n ≤ length c.parse.new.t = counted-fits c.if-limit-gt-DEEPEST_READING.false c.room_of.ensures c.parse.ensures in
    let zeros : c.fill.new.self ≡ replicate n 0 = c.fill.ensures.after (λ y e. e) ∙ ap (λ (k : ℕ). replicate k 0) (length-take-le n c.parse.new.t fits) in
    let left : c.fill.new.self ++ drop n c.parse.new.t ≡ replicate n 0 ++ drop n c.parse.new.t = ap (λ (l : List ℕ). l ++ drop n c.parse.new.t) zeros in
    let told = told-refused c.if-limit-gt-DEEPEST_READING.false c.room_of.ensures c.parse.ensures c.in-Err.is left in
    record { value = told.0; t_after = told.1 }
