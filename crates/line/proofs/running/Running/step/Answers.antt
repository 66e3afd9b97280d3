use Rattle.std.proofs.Common.{◌+◌, ◌*◌, ◌<◌, ◌++◌, drop, length, sym, arith}
use Rattle.std.proofs.lemmas.List.{length-append, length-drop, length-take}
use Rattle.charts.specs.Meanings.{chart_of}
use Rattle.line.proofs.Known.{runs_in}
use Rattle.line.proofs.Rows.{row-long}
use Rattle.line.proofs.Stepping.{moving-more, refused-by, stepped}
use Rattle.line.proofs.running.Running.step.Goals as goal

pub returns-in_default : goal.returns-in_default
returns-in_default g c =
    let r = c.args.self.now in
    let line = r.passed.line in
    let items = c.loop-component.state-items in
    let n = c.loop-component.component in
    let inside : c.args.event < (chart_of line.chart).events = omega (arith, c.events.ensures.value) in
    let lt : n < length items = omega arith in
    let few : n < 2 + 3 * (chart_of line.chart).levels = omega (arith, length-take c.from-count.result r.row.states) in
    refused-by (g.B.Bank.list line.bank) (g.B.Bank.formed line.bank) r.row c.args.event (chart_of line.chart) inside items _ n lt few c.loop-component.invariant (sym c.in_default.ensures)

pub loop-component-preserved : goal.loop-component-preserved
loop-component-preserved g c =
    let r = c.args.self.now in
    let line = r.passed.line in
    let n = c.loop-component.component in
    let lt : n < length c.loop-component.state-items = omega arith in
    moving-more (g.B.Bank.list line.bank) (g.B.Bank.formed line.bank) r.row c.args.event c.loop-component.state-items _ n lt c.loop-component.invariant c.in-Some.moved (sym c.in-Some.ensures)

pub returns : goal.returns
returns g c =
    let r = c.args.self.now in
    let line = r.passed.line in
    let items = c.loop-component.state-items in
    let rest = drop c.from-count.result r.row.states in
    let inside : c.args.event < (chart_of line.chart).events = omega (arith, c.events.ensures.value) in
    let long = row-long g.B.Bank.list line (g.B.Bank.formed line.bank) r.row (runs_in r) in
    stepped r c.args.event inside c.loop-component.component (items ++ rest)
    (omega (arith, length-take c.from-count.result r.row.states, long))
    (omega (arith, length-append items rest, length-drop c.from-count.result r.row.states, length-take c.from-count.result r.row.states, long)) c.loop-component.invariant
