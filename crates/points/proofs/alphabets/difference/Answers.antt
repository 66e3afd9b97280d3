use Rattle.std.proofs.Common.{◌<◌, get_or, rules}
use Rattle.std.proofs.iter.runs.Sources.{ranges, range_listed}
use Rattle.model.specs.Generators.{nothing}
use Rattle.model.specs.Sets.{member}
use Rattle.points.specs.Lowest.{alike}
use Rattle.points.proofs.Scanning.{found-told}
use Rattle.points.proofs.alphabets.difference.Goals as goal

pub returns : goal.returns
returns g c =
    let run = c.find.ensures.runs.0 in
    let up = (range_listed run run.seen).4 in
    found-told 64 (λ e. alike ((get_or (g.B.Bank.list c.args.bank.now) c.args.component nothing).knows e) (member c.args.alphabet.word e)) c.find.result
    (λ k e. (search (rules, ranges), search (rules, ranges), λ i h. let at = up.3 i (search (rules, ranges)) in search (rules, ranges, at)))
    (λ e k h. let within : k < run.len = search (rules, ranges) in let at = up.3 k within in search (rules, ranges, at))
