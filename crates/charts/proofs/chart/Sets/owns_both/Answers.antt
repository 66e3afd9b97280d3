use Rattle.std.proofs.Common.{arith}
use Rattle.std.proofs.lemmas.Bool.Decides.{nat_tests}
use Rattle.charts.proofs.Levels.{requests_empty, answers_empty}
use Rattle.charts.proofs.chart.Sets.owns_both.Goals as goal

pub returns-then-not-is_empty : goal.returns-then-not-is_empty
returns-then-not-is_empty c =
    let requests = requests_empty c.args.header.levels c.args.header.events c.args.self c.requires.agree c.args.level c.from.result c.requires.within c.from.ensures
    c.intersection.result.word c.is_empty.result c.intersection.ensures c.is_empty.ensures in
    let answers = answers_empty c.args.header.levels c.args.header.events c.args.self c.requires.agree c.args.level c.from.result c.requires.within c.from.ensures
    c.intersection-then-not-is_empty.result.word c.is_empty-then-not-is_empty.result c.intersection-then-not-is_empty.ensures c.is_empty-then-not-is_empty.ensures in
    grind (arith, nat_tests)

pub returns-else-not-is_empty : goal.returns-else-not-is_empty
returns-else-not-is_empty c =
    let requests = requests_empty c.args.header.levels c.args.header.events c.args.self c.requires.agree c.args.level c.from.result c.requires.within c.from.ensures
    c.intersection.result.word c.is_empty.result c.intersection.ensures c.is_empty.ensures in
    grind (arith, nat_tests)
