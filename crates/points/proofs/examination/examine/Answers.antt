use Rattle.std.proofs.Common.{◌≡◌, length, ◌∙◌, arith}
use Rattle.std.proofs.lemmas.Result.{err_from_is_err_and}
use Rattle.charts.proofs.Rules.{well-charted}
use Rattle.hisc.specs.Sizes.{largest_walk}
use Rattle.hisc.specs.Verdict.{few_cells}
use Rattle.points.specs.Examined.{cells_in}
use Rattle.walks.specs.Given.{line_given}
use Rattle.points.proofs.Verdicts.{enough-cells, few-cells-of, judged, largest-of, unmeasured}
use Rattle.points.proofs.examination.examine.Goals as goal

pub returns-in_err-sizes : goal.returns-in_err-sizes
returns-in_err-sizes g c =
    let gens = g.B.Bank.list c.args.line.now.bank in
    let l = line_given g.B.Bank.list c.args.line.now in
    let p = err_from_is_err_and c.from_residual.result c.from_residual.ensures.1 in
    rw (p.1, p.2) (unmeasured l (length gens) (cells_in (length c.args.first.now) (length c.args.second.now) (length c.args.third.now)) _ c.in_err-sizes.ensures)

pub returns-then-shortest-largest : goal.returns-then-shortest-largest
returns-then-shortest-largest g c =
    let k = c.args.line.now.chart in
    let gens = g.B.Bank.list c.args.line.now.bank in
    let l = line_given g.B.Bank.list c.args.line.now in
    let q = c.in_ok-sizes.ensures in
    let n : c.largest.result ≡ largest_walk l = c.largest.ensures ∙ largest-of l (well-charted k).few_levels c.in_ok-sizes.sizes q.1 in
    few_cells q.0
    (few-cells-of l (length c.args.first.now) (length c.args.second.now) (length c.args.third.now) (omega (arith, n)))

pub ten_points-requires : goal.ten_points-requires
ten_points-requires g c =
    let l = line_given g.B.Bank.list c.args.line.now in
    let n : c.largest.result ≡ largest_walk l = c.largest.ensures ∙ largest-of l (well-charted c.args.line.now.chart).few_levels c.in_ok-sizes.sizes c.in_ok-sizes.ensures.1 in
    omega (arith, n)

pub returns : goal.returns
returns g c =
    let k = c.args.line.now.chart in
    let gens = g.B.Bank.list c.args.line.now.bank in
    let l = line_given g.B.Bank.list c.args.line.now in
    let q = c.in_ok-sizes.ensures in
    let n : c.largest.result ≡ largest_walk l = c.largest.ensures ∙ largest-of l (well-charted k).few_levels c.in_ok-sizes.sizes q.1 in
    judged l (length gens) (cells_in (length c.args.first.now) (length c.args.second.now) (length c.args.third.now)) q.0
    (enough-cells l (length c.args.first.now) (length c.args.second.now) (length c.args.third.now) (omega (arith, n)) (omega (arith, n)) (omega (arith, n)))
    c.ten_points.result c.ten_points.ensures
