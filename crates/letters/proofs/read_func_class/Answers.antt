-- Assumes nothing.
use Prim.Native.Nat.{◌+◌}
use mathlib.Core.Path.{sym, ◌∙◌}
use lib.ListN.{drop}
use borrow.Author.Tests.{le-leb, lt-leb}
use Rattle.std.proofs.lemmas.Result.{err_from_is_err_and}
use Rattle.letters.specs.Classes.{read_func_class, func_class_letter}
use Rattle.scan.proofs.Laws.{split, past}
use Rattle.letters.proofs.read_func_class.Goals as goal

pub returns-then-s-at : goal.returns-then-s-at
unfolding read_func_class func_class_letter
returns-then-s-at c = rw (past c.args.s.now c.args.at c.if-s-at.true)

pub returns-in_err-bits : goal.returns-in_err-bits
unfolding read_func_class
returns-in_err-bits c =
    let p = err_from_is_err_and c.from_residual.result c.from_residual.ensures.1 in
    rw (split c.args.s.now c.args.at c.if-s-at.false, sym (c.func_class.ensures (drop (c.args.at + 1) c.args.s.now)) ∙ c.in_err-bits.was, p.1, p.2)

pub returns-then-bits-ge-THUNK : goal.returns-then-bits-ge-THUNK
unfolding read_func_class
returns-then-bits-ge-THUNK c = rw (split c.args.s.now c.args.at c.if-s-at.false, sym (c.func_class.ensures (drop (c.args.at + 1) c.args.s.now)) ∙ c.in_ok-bits.was, le-leb _ _ c.if-bits-ge-THUNK.true) c.read_adjustment.ensures

pub returns-else-bits-ge-THUNK : goal.returns-else-bits-ge-THUNK
unfolding read_func_class
returns-else-bits-ge-THUNK c = rw (split c.args.s.now c.args.at c.if-s-at.false, sym (c.func_class.ensures (drop (c.args.at + 1) c.args.s.now)) ∙ c.in_ok-bits.was, lt-leb _ _ c.if-bits-ge-THUNK.false)
