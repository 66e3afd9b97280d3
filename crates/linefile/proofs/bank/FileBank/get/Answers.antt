use Rattle.std.proofs.Common.{sym, ◌∙◌, arith}
use Rattle.charts.specs.Meanings.{chart_of}
use Rattle.linefile.specs.Layout.{texts}
use Rattle.linefile.proofs.Banked.{list_at, list-past, component-is}
use Rattle.linefile.proofs.bank.FileBank.get.Goals as goal

pub returns-then-component-components : goal.returns-then-component-components
returns-then-component-components c =
    list_at (chart_of c.args.self.now.chart) (texts c.args.self.now.bodies) c.args.component (omega (arith, c.components.ensures))
    ∙ sym (component-is _ _ _ _ c.make.ensures c.layer.ensures)

pub returns-else-component-components : goal.returns-else-component-components
returns-else-component-components c =
    list-past (chart_of c.args.self.now.chart) (texts c.args.self.now.bodies) c.args.component (omega (arith, c.components.ensures))
