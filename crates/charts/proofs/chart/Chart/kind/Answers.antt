use Rattle.std.proofs.Common.{arith}
use Rattle.std.proofs.lemmas.Bool.Decides.{nat_tests}
use Rattle.charts.proofs.Sets.{kind-at}
use Rattle.charts.proofs.chart.Chart.kind.Goals as goal

pub returns-then-event-self : goal.returns-then-event-self
returns-then-event-self c = grind (arith, nat_tests, kind-at c.args.self.now c.args.event)

pub returns-then-contains : goal.returns-then-contains
returns-then-contains c = grind (arith, nat_tests, kind-at c.args.self.now c.args.event)

pub returns-then-contains-2 : goal.returns-then-contains-2
returns-then-contains-2 c = grind (arith, nat_tests, kind-at c.args.self.now c.args.event)

pub returns-then-contains-3 : goal.returns-then-contains-3
returns-then-contains-3 c = grind (arith, nat_tests, kind-at c.args.self.now c.args.event)

pub returns-else-contains-3 : goal.returns-else-contains-3
returns-else-contains-3 c = grind (arith, nat_tests, kind-at c.args.self.now c.args.event)
