use Rattle.line.specs.Lent.{lent}
use Rattle.line.proofs.Homing.{Going}
use Rattle.line.proofs.running.Running.go_home.Given as goal

abbrev pub invariant-loop-offers : goal.invariant-loop-offers
invariant-loop-offers g l = Going l.initial.self (lent l.initial.cells) l.self (lent l.cells) l.offers
