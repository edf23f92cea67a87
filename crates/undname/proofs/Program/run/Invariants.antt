use Rattle.undname.specs.Turns.{Between}
use Rattle.undname.proofs.Program.run.Given as goal

abbrev pub invariant-turns : goal.invariant-turns
invariant-turns l = Between l.self.input l.w
