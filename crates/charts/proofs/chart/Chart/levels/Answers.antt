use Rattle.std.proofs.Common.{refl}
use Rattle.charts.specs.Meanings.{chart_of}
use Rattle.charts.specs.Sets.{chart_from}
use Rattle.charts.proofs.Rules.{well-charted}
use Rattle.charts.proofs.chart.Chart.levels.Goals as goal

pub returns : goal.returns
unfolding chart_of chart_from
returns c = record { value = refl; rules = well-charted c.args.self.now }
