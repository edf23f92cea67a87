use Prim.Native.Nat.{ℕ, ◌+◌, ◌*◌, ◌-◌}
use mathlib.Core.List.{List}
use Rattle.std.specs.Prelude.{Result}
use Rattle.grammar.specs.Grammar.{params, scope, params_from, scope_from}
use Rattle.grammar.specs.declared.State.{State}
use Rattle.grammar.specs.declared.Refusal.{Refusal}
use Rattle.steps.specs.Does.{Does}
use Rattle.cycle.proofs.+readers.Given as goal

abbrev pub decreases-array : goal.decreases-array
decreases-array l = 8 * l.depth + 4

abbrev pub decreases-dims : goal.decreases-dims
decreases-dims l = 8 * l.depth + 3

abbrev pub decreases-elem : goal.decreases-elem
decreases-elem l = 8 * l.depth + 2

abbrev pub decreases-fparams : goal.decreases-fparams
decreases-fparams l = 8 * l.depth + 5

abbrev pub decreases-func : goal.decreases-func
decreases-func l = 8 * l.depth + 7

abbrev pub decreases-mptr : goal.decreases-mptr
decreases-mptr l = 8 * l.depth + 7

abbrev pub decreases-name : goal.decreases-name
decreases-name l = 8 * l.depth + 0

abbrev pub decreases-named : goal.decreases-named
decreases-named l = 8 * l.depth + 1

abbrev pub decreases-nested : goal.decreases-nested
decreases-nested l = 8 * l.depth + 0

abbrev pub decreases-nname : goal.decreases-nname
decreases-nname l = 8 * l.depth + 1

abbrev pub decreases-oguard : goal.decreases-oguard
decreases-oguard l = 8 * l.depth + 0

abbrev pub decreases-oname : goal.decreases-oname
decreases-oname l = 8 * l.depth + 0

abbrev pub decreases-otmpl : goal.decreases-otmpl
decreases-otmpl l = 8 * l.depth + 0

abbrev pub decreases-param : goal.decreases-param
decreases-param l = 8 * l.depth + 2

abbrev pub decreases-params : goal.decreases-params
decreases-params l = 8 * l.depth + 3

abbrev pub decreases-parse : goal.decreases-parse
decreases-parse l = 8 * l.depth + 0

abbrev pub decreases-pform : goal.decreases-pform
decreases-pform l = 8 * l.depth + 2

abbrev pub decreases-pguard : goal.decreases-pguard
decreases-pguard l = 8 * l.depth + 1

abbrev pub decreases-plist : goal.decreases-plist
decreases-plist l = 8 * l.depth + 4

abbrev pub decreases-pname : goal.decreases-pname
decreases-pname l = 8 * l.depth + 1

abbrev pub decreases-point : goal.decreases-point
decreases-point l = 8 * l.depth + 2

abbrev pub decreases-ptmpl : goal.decreases-ptmpl
decreases-ptmpl l = 8 * l.depth + 1

abbrev pub decreases-rett : goal.decreases-rett
decreases-rett l = 8 * l.depth + 3

abbrev pub decreases-scope : goal.decreases-scope
decreases-scope l = 8 * l.depth + 3

abbrev pub decreases-sname : goal.decreases-sname
decreases-sname l = 8 * l.depth + 2

abbrev pub decreases-special : goal.decreases-special
decreases-special l = 8 * l.depth + 2

abbrev pub decreases-strt : goal.decreases-strt
decreases-strt l = 8 * l.depth + 2

abbrev pub decreases-sym : goal.decreases-sym
decreases-sym l = 8 * l.depth + 0

abbrev pub decreases-tail : goal.decreases-tail
decreases-tail l = 8 * l.depth + 6

abbrev pub decreases-tmpl : goal.decreases-tmpl
decreases-tmpl l = 8 * l.depth + 4

abbrev pub decreases-tofn : goal.decreases-tofn
decreases-tofn l = 8 * l.depth + 0

abbrev pub decreases-ty : goal.decreases-ty
decreases-ty l = 8 * l.depth + 0

abbrev pub decreases-unq : goal.decreases-unq
decreases-unq l = 8 * l.depth + 0

abbrev pub decreases-unqn : goal.decreases-unqn
decreases-unqn l = 8 * l.depth + 1

abbrev pub decreases-var : goal.decreases-var
decreases-var l = 8 * l.depth + 2

abbrev pub decreases-vtype : goal.decreases-vtype
decreases-vtype l = 8 * l.depth + 1

abbrev pub invariant-params-loop : goal.invariant-params-loop
invariant-params-loop l = (g : Result ℕ Refusal) (st' : State) (t' : List ℕ) → Does l.r l.depth (params_from (l.most - l.counter) l.last) l.st l.t g st' t' → Does l.r l.depth params l.initial.st l.initial.t g st' t'

abbrev pub invariant-scope-loop : goal.invariant-scope-loop
invariant-scope-loop l = (g : Result ℕ Refusal) (st' : State) (t' : List ℕ) → Does l.r l.depth (scope_from (l.most - l.counter) l.last) l.st l.t g st' t' → Does l.r l.depth scope l.initial.st l.initial.t g st' t'
