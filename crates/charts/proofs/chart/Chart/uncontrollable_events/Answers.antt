use Rattle.charts.specs.Meanings.{chart_of}
use Rattle.charts.proofs.chart.Chart.uncontrollable_events.Goals as goal

pub returns : goal.returns
unfolding chart_of
returns c = c.args.self.now.agree.control
