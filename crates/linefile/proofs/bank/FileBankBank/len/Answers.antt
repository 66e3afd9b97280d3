use Rattle.std.proofs.Common.{arith}
use Rattle.charts.specs.Meanings.{chart_of}
use Rattle.linefile.specs.Layout.{texts}
use Rattle.linefile.proofs.Banked.{list_length}
use Rattle.linefile.proofs.bank.FileBankBank.len.Goals as goal

pub returns : goal.returns
returns c =
    let n = list_length (chart_of c.args.self.now.chart) (texts c.args.self.now.bodies) in
    omega (arith, n, c.components.ensures)
