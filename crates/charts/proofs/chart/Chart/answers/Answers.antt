use Rattle.std.proofs.Common.{arith}
use Rattle.std.proofs.lemmas.Bool.Decides.{nat_tests}
use Rattle.charts.specs.Meanings.{chart_of}
use Rattle.charts.proofs.chart.Chart.answers.Goals as goal

pub returns : goal.returns
unfolding chart_of
returns c e = grind (arith, nat_tests, c.args.self.now.agree.answering e, c.level_alphabet.ensures e, c.intersection.ensures e)
