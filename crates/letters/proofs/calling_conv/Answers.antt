-- Assumes nothing.
use mathlib.Core.Path.{refl}
use mathlib.Core.List.{[], ◌∷◌}
use native.Mathlib.Omega.{arith}
use Rattle.scan.proofs.Laws.{on-range, off-keys}
use Rattle.letters.specs.Classes.{read_calling_conv}
use Rattle.std.specs.Prelude.{Ok, Err}
use Rattle.letters.proofs.Spelled.{up_to-one}
use Rattle.letters.proofs.calling_conv.Goals as goal

pub returns-in-67 : goal.returns-in-67
unfolding read_calling_conv
returns-in-67 c = λ rest. rw c.in-67.is

pub returns-in-69 : goal.returns-in-69
unfolding read_calling_conv
returns-in-69 c = λ rest. rw c.in-69.is

pub returns-in-71 : goal.returns-in-71
unfolding read_calling_conv
returns-in-71 c = λ rest. rw c.in-71.is

pub returns-in-73 : goal.returns-in-73
unfolding read_calling_conv
returns-in-73 c = λ rest. rw c.in-73.is

pub returns-in-65-to-66 : goal.returns-in-65-to-66
unfolding read_calling_conv
returns-in-65-to-66 c = λ rest. on-range 65 2 (λ c. Ok (0, 1)) (λ c. read_calling_conv (c ∷ rest)) refl c.args.c (omega arith) (omega arith)

pub returns-in_default : goal.returns-in_default
unfolding read_calling_conv
returns-in_default c = λ rest. off-keys (73 ∷ 71 ∷ 69 ∷ 67 ∷ []) 0 65 (λ c. Err 1) (λ c. read_calling_conv (c ∷ rest)) (rw (up_to-one 0 rest)) c.args.c (omega arith) (omega arith) c.in_default.in_default-own.rest

pub returns-in_default-2 : goal.returns-in_default-2
unfolding read_calling_conv
returns-in_default-2 c = λ rest. off-keys (73 ∷ 71 ∷ 69 ∷ 67 ∷ []) 67 189 (λ c. Err 1) (λ c. read_calling_conv (c ∷ rest)) (rw (up_to-one 0 rest)) c.args.c (omega arith) (omega arith) c.in_default.in_default-own.rest
