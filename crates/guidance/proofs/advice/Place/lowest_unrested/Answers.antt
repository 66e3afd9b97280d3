use Rattle.std.proofs.Common.{◌-◌, ◌<◌, rules}
use Rattle.std.proofs.iter.runs.Sources.{ranges, inclusive_listed}
use Rattle.walks.specs.Given.{line_given}
use Rattle.walks.specs.Rows.{row_state}
use Rattle.guidance.proofs.Lowest.{unrested-told}
use Rattle.guidance.proofs.advice.Place.lowest_unrested.Goals as goal

pub returns : goal.returns
returns g c =
    let run = c.find.ensures.runs.0 in
    unrested-told (line_given g.B.Bank.list c.args.self.now.line.now) (row_state c.args.self.now.row.now) c.find.result
    (λ j e. (
      search (rules, ranges),
      search (rules, ranges),
      search (rules, ranges),
      λ i some lt.
          let at = ((inclusive_listed run run.seen).4 (search rules)).0.3 (i - 1) (search (rules, ranges)) in search (rules, ranges, at),
    ))
    (λ e i some le.
    let within : i - 1 < run.len = search (rules, ranges) in
    let at = ((inclusive_listed run run.seen).4 (search rules)).0.3 (i - 1) within in
    search (rules, ranges, at))
