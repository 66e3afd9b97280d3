use Rattle.charts.proofs.Sets.{in-high}
use Rattle.charts.proofs.chart.Chart.high_alphabet.Goals as goal

pub returns : goal.returns
returns c e =
    let first = c.union.ensures e in
    let both = c.union-2.ensures e in
    let high = in-high c.args.self.now e in
    cc
