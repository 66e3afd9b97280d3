use Rattle.std.proofs.Common.{◌<◌, rules}
use Rattle.std.proofs.iter.runs.Sources.{ranges, range_listed}
use Rattle.makes.proofs.Departures.{departure-found}
use Rattle.makes.proofs.fits.Body.departure.Goals as goal

pub returns : goal.returns
returns c =
    let body = c.args.self.now.bytes.now in
    let run = c.find.ensures.runs.0 in
    let up = (range_listed run run.seen).4 in
    let found = departure-found c.args.self.now.events body c.find.result
    (λ k e. (search (rules, ranges), search (rules, ranges), λ i h. let at = up.3 i (search (rules, ranges)) in search (rules, ranges, at)))
    (λ e k h. let within : k < run.len = search (rules, ranges) in let at = up.3 k within in search (rules, ranges, at)) in
    cc
