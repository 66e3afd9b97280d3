use Rattle.std.proofs.Common.{◌≡◌, length, arith}
use Rattle.charts.specs.Meanings.{chart_of}
use Rattle.charts.proofs.Rules.{well-charted}
use Rattle.line.proofs.Known.{checked_in}
use Rattle.line.proofs.Rows.{runs-begin}
use Rattle.line.proofs.Stepping.{all-initial}
use Rattle.line.proofs.passed.Passed.begin.Goals as goal

pub returns : goal.returns
returns g c =
    let p = c.args.self.now in
    let list = g.B.Bank.list in
    let known = checked_in p in
    let long : length c.initial.result.states ≡ 26 = omega (arith, c.initial.type_inv) in
    let is = all-initial (list p.line.bank) (chart_of p.line.chart) known.sizes.complete c.initial.result long (omega (arith, (well-charted p.line.chart).few_levels)) c.initial.ensures in
    record { state = is; runs = runs-begin list p.line (g.B.Bank.formed p.line.bank) known c.initial.result long is }
