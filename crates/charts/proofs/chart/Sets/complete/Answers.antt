use Rattle.std.proofs.Common.{arith}
use Rattle.charts.specs.Sets.{chart_from}
use Rattle.charts.proofs.Levels.{lacks-at, lacks-none}
use Rattle.charts.proofs.chart.Sets.complete.Goals as goal

pub returns : goal.returns
unfolding chart_from
returns c = lacks-none (chart_from c.args.header.levels c.args.header.events c.args.self) (λ j s h. c.loop-level.invariant j s (omega arith))

pub returns-then-not-owns_both : goal.returns-then-not-owns_both
unfolding chart_from
returns-then-not-owns_both c =
    lacks-at (chart_from c.args.header.levels c.args.header.events c.args.self) c.loop-level.level (omega arith) (omega arith) c.loop-level.invariant
    (grind (arith, c.owns_both.ensures))

pub returns-else-not-owns_both : goal.returns-else-not-owns_both
unfolding chart_from
returns-else-not-owns_both c =
    lacks-none (chart_from c.args.header.levels c.args.header.events c.args.self) (λ j s h. grind (arith, c.owns_both.ensures, c.loop-level.invariant j s))
