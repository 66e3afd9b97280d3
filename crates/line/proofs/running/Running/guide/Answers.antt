use Rattle.std.proofs.Common.{◌≡◌, min, length, refl, ap, ◌∙◌, arith, rules}
use Rattle.charts.proofs.Rules.{well-charted}
use Rattle.hisc.specs.Calls.{Guide, guidance, refused}
use Rattle.hisc.specs.Guide.{guide}
use Rattle.model.specs.declared.fault.Fault.TheVariants.{WorkCells}
use Rattle.model.specs.declared.fault.Layer.TheVariants.{Run}
use Rattle.points.specs.Examined.{cells_in}
use Rattle.points.proofs.Verdicts.{largest-of}
use Rattle.line.specs.Answers.{line_in, state_in}
use Rattle.line.proofs.Answering.{answered-same}
use Rattle.line.proofs.Guiding.{ready_of, told-guided, told-short}
use Rattle.line.proofs.Known.{runs_in}
use Rattle.line.proofs.running.Running.guide.Goals as goal

pub returns-then-shortest-largest-clause-answered : goal.returns-then-shortest-largest-clause-answered
returns-then-shortest-largest-clause-answered g c =
    let s = c.args.self.now in
    let k = length c.args.cells.now.first.now in
    let m = length c.args.cells.now.second.now in
    let n = length c.args.cells.now.third.now in
    let largest = c.largest.ensures ∙ largest-of (line_in s) (well-charted s.passed.line.chart).few_levels c.sizes.result c.sizes.ensures in
    answered-same s (Guide (cells_in k m n)) (refused (WorkCells Run)) (told-short (line_in s) (state_in s) k m n (omega (arith, largest, c.min.ensures, c.min-shortest.ensures))) refl

pub unwrap-requires : goal.unwrap-requires
unwrap-requires g c =
    let s = c.args.self.now in
    let line = s.passed.line in
    let largest = c.largest.ensures ∙ largest-of (line_in s) (well-charted line.chart).few_levels c.sizes.result c.sizes.ensures in
    let room = ready_of g.B.Bank.list line (g.B.Bank.formed line.bank) s.row (runs_in s) (min (length c.args.cells.now.first.now) (length c.args.cells.now.second.now)) (omega (arith, largest, c.min.ensures, c.min-shortest.ensures)) in
    let ok = c.advice.ensures.succeeds room in
    search rules

pub returns-clause-answered : goal.returns-clause-answered
returns-clause-answered g c =
    let s = c.args.self.now in
    let k = length c.args.cells.now.first.now in
    let m = length c.args.cells.now.second.now in
    let n = length c.args.cells.now.third.now in
    let largest = c.largest.ensures ∙ largest-of (line_in s) (well-charted s.passed.line.chart).few_levels c.sizes.result c.sizes.ensures in
    let given : c.unwrap.result ≡ guide (line_in s) (state_in s) = search rules in
    answered-same s (Guide (cells_in k m n)) (guidance c.unwrap.result) (ap guidance given ∙ told-guided (line_in s) (state_in s) k m n (omega (arith, largest, c.min.ensures, c.min-shortest.ensures))) refl
