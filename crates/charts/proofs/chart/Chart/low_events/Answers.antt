use Rattle.std.proofs.Common.{arith}
use Rattle.std.proofs.lemmas.Bool.Decides.{nat_tests}
use Rattle.charts.proofs.chart.Chart.low_events.Goals as goal

pub returns : goal.returns
returns c e = grind (arith, nat_tests, c.high_alphabet.ensures e, c.level_alphabet.ensures e, c.difference.ensures e)
