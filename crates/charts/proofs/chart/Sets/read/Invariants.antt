use Rattle.std.proofs.Common.{◌≡◌, ◌*◌, drop}
use Rattle.charts.specs.RowSteps.{Gathered, RightBytes}
use Rattle.charts.proofs.chart.Sets.read.Given as goal

abbrev pub invariant-loop-event : goal.invariant-loop-event
invariant-loop-event l = record {
  left : l.left ≡ drop (3 * l.event) l.rows;
  gathered : Gathered l.rows l.event l.sets;
  right : RightBytes l.header.levels l.rows l.event;
}
