use Rattle.std.proofs.Common.{length}
use Rattle.line.specs.Lent.{lent}
use Rattle.line.proofs.Performing.{Performing}
use Rattle.line.proofs.running.Running.perform.Given as goal

abbrev pub invariant-loop-call : goal.invariant-loop-call
invariant-loop-call g l =
    Performing l.initial.self (length l.initial.out) (lent l.initial.cells) l.calls l.self (lent l.cells) l.call-index l.refused
