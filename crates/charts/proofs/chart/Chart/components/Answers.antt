use Rattle.std.proofs.Common.{rules}
use Rattle.charts.specs.Meanings.{chart_of}
use Rattle.charts.specs.Sets.{chart_from}
use Rattle.charts.proofs.chart.Chart.components.Goals as goal

pub returns-clause-value : goal.returns-clause-value
unfolding chart_of chart_from
returns-clause-value c = search rules
