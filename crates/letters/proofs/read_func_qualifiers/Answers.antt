-- Assumes nothing.
use Prim.Native.Nat.{◌+◌}
use mathlib.Core.Path.{◌∙◌}
use native.Mathlib.Omega.{arith}
use Rattle.letters.specs.Classes.{read_func_qualifiers, read_qualifier, ref_qualifier, optional, ◌then◌}
use Rattle.scan.proofs.Laws.{past}
use Rattle.letters.proofs.Spelled.{sized-optional, sized-reference, sized-qualifier, stays, below, behind, same_class}
use Rattle.letters.proofs.read_func_qualifiers.Goals as goal

pub returns-then-s-at : goal.returns-then-s-at
unfolding read_func_qualifiers read_qualifier
returns-then-s-at c = rw (past c.args.s.now c.args.at c.if-s-at.true)

pub overflow_add-at : goal.overflow_add-at
overflow_add-at c = record { fits = omega (arith, (stays (sized-optional 69 64) c.args.s.now c.args.at c.optional_letter-ptr64.result c.optional_letter-ptr64.ensures (omega arith))) }

pub optional_letter-restrict-requires : goal.optional_letter-restrict-requires
optional_letter-restrict-requires c = (stays (sized-optional 69 64) c.args.s.now c.args.at c.optional_letter-ptr64.result c.optional_letter-ptr64.ensures (omega arith))

pub overflow_add-b : goal.overflow_add-b
overflow_add-b c = record { fits = omega (arith, (stays (sized-optional 73 32) c.args.s.now (c.args.at + c.optional_letter-ptr64.result.taken) c.optional_letter-restrict.result c.optional_letter-restrict.ensures (stays (sized-optional 69 64) c.args.s.now c.args.at c.optional_letter-ptr64.result c.optional_letter-ptr64.ensures (omega arith)))) }

pub overflow_add-at-2 : goal.overflow_add-at-2
overflow_add-at-2 c = record { fits = omega (arith, (stays (sized-optional 73 32) c.args.s.now (c.args.at + c.optional_letter-ptr64.result.taken) c.optional_letter-restrict.result c.optional_letter-restrict.ensures (stays (sized-optional 69 64) c.args.s.now c.args.at c.optional_letter-ptr64.result c.optional_letter-ptr64.ensures (omega arith)))) }

pub optional_letter-unaligned-requires : goal.optional_letter-unaligned-requires
optional_letter-unaligned-requires c = omega (arith, (stays (sized-optional 73 32) c.args.s.now (c.args.at + c.optional_letter-ptr64.result.taken) c.optional_letter-restrict.result c.optional_letter-restrict.ensures (stays (sized-optional 69 64) c.args.s.now c.args.at c.optional_letter-ptr64.result c.optional_letter-ptr64.ensures (omega arith))))

pub overflow_add-c : goal.overflow_add-c
overflow_add-c c = record { fits = omega (arith, (stays (sized-optional 70 16) c.args.s.now (c.args.at + (c.optional_letter-ptr64.result.taken + c.optional_letter-restrict.result.taken)) c.optional_letter-unaligned.result c.optional_letter-unaligned.ensures (omega (arith, (stays (sized-optional 73 32) c.args.s.now (c.args.at + c.optional_letter-ptr64.result.taken) c.optional_letter-restrict.result c.optional_letter-restrict.ensures (stays (sized-optional 69 64) c.args.s.now c.args.at c.optional_letter-ptr64.result c.optional_letter-ptr64.ensures (omega arith))))))) }

pub overflow_add-at-3 : goal.overflow_add-at-3
overflow_add-at-3 c = record { fits = omega (arith, (stays (sized-optional 70 16) c.args.s.now (c.args.at + (c.optional_letter-ptr64.result.taken + c.optional_letter-restrict.result.taken)) c.optional_letter-unaligned.result c.optional_letter-unaligned.ensures (omega (arith, (stays (sized-optional 73 32) c.args.s.now (c.args.at + c.optional_letter-ptr64.result.taken) c.optional_letter-restrict.result c.optional_letter-restrict.ensures (stays (sized-optional 69 64) c.args.s.now c.args.at c.optional_letter-ptr64.result c.optional_letter-ptr64.ensures (omega arith))))))) }

pub ref_qualifier-reference-requires : goal.ref_qualifier-reference-requires
ref_qualifier-reference-requires c = omega (arith, (stays (sized-optional 70 16) c.args.s.now (c.args.at + (c.optional_letter-ptr64.result.taken + c.optional_letter-restrict.result.taken)) c.optional_letter-unaligned.result c.optional_letter-unaligned.ensures (omega (arith, (stays (sized-optional 73 32) c.args.s.now (c.args.at + c.optional_letter-ptr64.result.taken) c.optional_letter-restrict.result c.optional_letter-restrict.ensures (stays (sized-optional 69 64) c.args.s.now c.args.at c.optional_letter-ptr64.result c.optional_letter-ptr64.ensures (omega arith)))))))

pub overflow_add-d : goal.overflow_add-d
overflow_add-d c = record { fits = omega (arith, (stays sized-reference c.args.s.now (c.args.at + (c.optional_letter-ptr64.result.taken + c.optional_letter-restrict.result.taken + c.optional_letter-unaligned.result.taken)) c.ref_qualifier-reference.result c.ref_qualifier-reference.ensures (omega (arith, (stays (sized-optional 70 16) c.args.s.now (c.args.at + (c.optional_letter-ptr64.result.taken + c.optional_letter-restrict.result.taken)) c.optional_letter-unaligned.result c.optional_letter-unaligned.ensures (omega (arith, (stays (sized-optional 73 32) c.args.s.now (c.args.at + c.optional_letter-ptr64.result.taken) c.optional_letter-restrict.result c.optional_letter-restrict.ensures (stays (sized-optional 69 64) c.args.s.now c.args.at c.optional_letter-ptr64.result c.optional_letter-ptr64.ensures (omega arith)))))))))) }

pub overflow_add-at-4 : goal.overflow_add-at-4
overflow_add-at-4 c = record { fits = omega (arith, (stays sized-reference c.args.s.now (c.args.at + (c.optional_letter-ptr64.result.taken + c.optional_letter-restrict.result.taken + c.optional_letter-unaligned.result.taken)) c.ref_qualifier-reference.result c.ref_qualifier-reference.ensures (omega (arith, (stays (sized-optional 70 16) c.args.s.now (c.args.at + (c.optional_letter-ptr64.result.taken + c.optional_letter-restrict.result.taken)) c.optional_letter-unaligned.result c.optional_letter-unaligned.ensures (omega (arith, (stays (sized-optional 73 32) c.args.s.now (c.args.at + c.optional_letter-ptr64.result.taken) c.optional_letter-restrict.result c.optional_letter-restrict.ensures (stays (sized-optional 69 64) c.args.s.now c.args.at c.optional_letter-ptr64.result c.optional_letter-ptr64.ensures (omega arith)))))))))) }

pub overflow_add-result : goal.overflow_add-result
overflow_add-result c = record { fits = omega (arith, (below (sized-optional 69 64) c.args.s.now c.args.at c.optional_letter-ptr64.result c.optional_letter-ptr64.ensures), (below (sized-optional 73 32) c.args.s.now (c.args.at + c.optional_letter-ptr64.result.taken) c.optional_letter-restrict.result c.optional_letter-restrict.ensures)) }

pub overflow_add-result-2 : goal.overflow_add-result-2
overflow_add-result-2 c = record { fits = omega (arith, (below (sized-optional 69 64) c.args.s.now c.args.at c.optional_letter-ptr64.result c.optional_letter-ptr64.ensures), (below (sized-optional 73 32) c.args.s.now (c.args.at + c.optional_letter-ptr64.result.taken) c.optional_letter-restrict.result c.optional_letter-restrict.ensures), (below (sized-optional 70 16) c.args.s.now (c.args.at + (c.optional_letter-ptr64.result.taken + c.optional_letter-restrict.result.taken)) c.optional_letter-unaligned.result c.optional_letter-unaligned.ensures)) }

pub overflow_add-result-3 : goal.overflow_add-result-3
overflow_add-result-3 c = record { fits = omega (arith, (below (sized-optional 69 64) c.args.s.now c.args.at c.optional_letter-ptr64.result c.optional_letter-ptr64.ensures), (below (sized-optional 73 32) c.args.s.now (c.args.at + c.optional_letter-ptr64.result.taken) c.optional_letter-restrict.result c.optional_letter-restrict.ensures), (below (sized-optional 70 16) c.args.s.now (c.args.at + (c.optional_letter-ptr64.result.taken + c.optional_letter-restrict.result.taken)) c.optional_letter-unaligned.result c.optional_letter-unaligned.ensures), (below sized-reference c.args.s.now (c.args.at + (c.optional_letter-ptr64.result.taken + c.optional_letter-restrict.result.taken + c.optional_letter-unaligned.result.taken)) c.ref_qualifier-reference.result c.ref_qualifier-reference.ensures)) }

pub overflow_add-result-4 : goal.overflow_add-result-4
overflow_add-result-4 c = record { fits = omega (arith, (below (sized-optional 69 64) c.args.s.now c.args.at c.optional_letter-ptr64.result c.optional_letter-ptr64.ensures), (below (sized-optional 73 32) c.args.s.now (c.args.at + c.optional_letter-ptr64.result.taken) c.optional_letter-restrict.result c.optional_letter-restrict.ensures), (below (sized-optional 70 16) c.args.s.now (c.args.at + (c.optional_letter-ptr64.result.taken + c.optional_letter-restrict.result.taken)) c.optional_letter-unaligned.result c.optional_letter-unaligned.ensures), (below sized-reference c.args.s.now (c.args.at + (c.optional_letter-ptr64.result.taken + c.optional_letter-restrict.result.taken + c.optional_letter-unaligned.result.taken)) c.ref_qualifier-reference.result c.ref_qualifier-reference.ensures), (below sized-qualifier c.args.s.now (c.args.at + (c.optional_letter-ptr64.result.taken + c.optional_letter-restrict.result.taken + c.optional_letter-unaligned.result.taken + c.ref_qualifier-reference.result.taken)) c.read_qualifier-rest.result c.read_qualifier-rest.ensures)) }

pub overflow_add-result-5 : goal.overflow_add-result-5
overflow_add-result-5 c = record { fits = omega (arith, (stays sized-qualifier c.args.s.now (c.args.at + (c.optional_letter-ptr64.result.taken + c.optional_letter-restrict.result.taken + c.optional_letter-unaligned.result.taken + c.ref_qualifier-reference.result.taken)) c.read_qualifier-rest.result c.read_qualifier-rest.ensures (omega (arith, (stays sized-reference c.args.s.now (c.args.at + (c.optional_letter-ptr64.result.taken + c.optional_letter-restrict.result.taken + c.optional_letter-unaligned.result.taken)) c.ref_qualifier-reference.result c.ref_qualifier-reference.ensures (omega (arith, (stays (sized-optional 70 16) c.args.s.now (c.args.at + (c.optional_letter-ptr64.result.taken + c.optional_letter-restrict.result.taken)) c.optional_letter-unaligned.result c.optional_letter-unaligned.ensures (omega (arith, (stays (sized-optional 73 32) c.args.s.now (c.args.at + c.optional_letter-ptr64.result.taken) c.optional_letter-restrict.result c.optional_letter-restrict.ensures (stays (sized-optional 69 64) c.args.s.now c.args.at c.optional_letter-ptr64.result c.optional_letter-ptr64.ensures (omega arith))))))))))))) }

pub returns : goal.returns
unfolding read_func_qualifiers
returns c =
    same_class (omega arith) (omega arith)
    ∙ behind (optional 69 64) (optional 73 32 then optional 70 16 then ref_qualifier then read_qualifier) c.args.s.now c.args.at (c.args.at + c.optional_letter-ptr64.result.taken) c.optional_letter-ptr64.result _ (omega arith) c.optional_letter-ptr64.ensures
    (behind (optional 73 32) (optional 70 16 then ref_qualifier then read_qualifier) c.args.s.now (c.args.at + c.optional_letter-ptr64.result.taken) (c.args.at + (c.optional_letter-ptr64.result.taken + c.optional_letter-restrict.result.taken)) c.optional_letter-restrict.result _ (omega arith) c.optional_letter-restrict.ensures
    (behind (optional 70 16) (ref_qualifier then read_qualifier) c.args.s.now (c.args.at + (c.optional_letter-ptr64.result.taken + c.optional_letter-restrict.result.taken)) (c.args.at + (c.optional_letter-ptr64.result.taken + c.optional_letter-restrict.result.taken + c.optional_letter-unaligned.result.taken)) c.optional_letter-unaligned.result _ (omega arith) c.optional_letter-unaligned.ensures
    (behind ref_qualifier read_qualifier c.args.s.now (c.args.at + (c.optional_letter-ptr64.result.taken + c.optional_letter-restrict.result.taken + c.optional_letter-unaligned.result.taken)) (c.args.at + (c.optional_letter-ptr64.result.taken + c.optional_letter-restrict.result.taken + c.optional_letter-unaligned.result.taken + c.ref_qualifier-reference.result.taken)) c.ref_qualifier-reference.result c.read_qualifier-rest.result (omega arith) c.ref_qualifier-reference.ensures c.read_qualifier-rest.ensures)))
