use Rattle.std.proofs.Common.{[], ◌∷◌}
use Rattle.hisc.specs.Verdict.{alphabet_known, listed, AllHold}
use Rattle.points.specs.Whole.{line_whole}
use Rattle.points.proofs.whole.Whole.alphabets_known.Given as goal

abbrev pub invariant-loop-component : goal.invariant-loop-component
invariant-loop-component g l = AllHold (line_whole l.self) (listed l.component (λ c. alphabet_known c ∷ []))
