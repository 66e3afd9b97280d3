use Rattle.std.proofs.Common.{◌≡◌, ℕ, ◌<◌, ◌≤◌, true}
use Rattle.charts.specs.Sets.{chart_from}
use Rattle.charts.proofs.Levels.{both}
use Rattle.charts.proofs.chart.Sets.complete.Given as goal

abbrev pub invariant-loop-level : goal.invariant-loop-level
invariant-loop-level l = (j : ℕ) → 1 ≤ j → j < l.level → both (chart_from l.fn.header.levels l.fn.header.events l.self) j ≡ true
