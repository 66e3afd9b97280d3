use Rattle.std.proofs.Common.{◌++◌, drop}
use Rattle.line.proofs.Stepping.{Moving}
use Rattle.line.proofs.running.Running.step.Given as goal

abbrev pub invariant-loop-component : goal.invariant-loop-component
invariant-loop-component g l =
    Moving (g.B.Bank.list l.line.bank) l.self.row l.event l.component (l.state-items ++ drop l.count l.self.row.states)
