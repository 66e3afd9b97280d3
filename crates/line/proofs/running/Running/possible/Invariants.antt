use Rattle.hisc.specs.Lines.{flat, possible}
use Rattle.line.specs.Answers.{line_in, state_in}
use Rattle.line.proofs.Listing.{Listing}
use Rattle.line.proofs.running.Running.possible.Given as goal

abbrev pub invariant-loop-event : goal.invariant-loop-event
invariant-loop-event g l =
    Listing (possible (line_in l.self) (flat (line_in l.self)) (state_in l.self)) l.initial.out l.out l.count l.event
