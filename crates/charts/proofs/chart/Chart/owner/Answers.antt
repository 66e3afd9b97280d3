use Rattle.std.proofs.Common.{◌<◌, rules}
use Rattle.std.proofs.iter.runs.Sources.{ranges, inclusive_listed}
use Rattle.charts.proofs.Sets.{owner-told}
use Rattle.charts.proofs.chart.Chart.owner.Goals as goal

pub returns : goal.returns
returns c =
    let told =
    owner-told c.args.self.now c.args.event c.find.result
    (λ j e. search (rules, ranges))
    (λ e j h.
    let run = c.find.ensures.runs.0 in
    let within : j < run.len = search (rules, ranges) in
    let at = ((inclusive_listed run run.seen).4 (search rules)).0.3 j within in
    search (rules, ranges, at))
    in
    search (rules, told)
