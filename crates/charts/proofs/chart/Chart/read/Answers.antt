use Rattle.std.proofs.Common.{drop, Result, ap}
use Rattle.std.proofs.lemmas.List.{take_rest}
use Rattle.std.proofs.lemmas.Result.{err_from_is_err_and}
use Rattle.model.specs.Readings.{and_then}
use Rattle.model.specs.declared.fault.Fault.{Fault}
use Rattle.charts.specs.Headers.{Sizes}
use Rattle.charts.specs.Rows.{rows_reading, chart_reading}
use Rattle.charts.proofs.chart.Chart.read.Goals as goal

pub returns-in_err-header : goal.returns-in_err-header
unfolding chart_reading
returns-in_err-header c =
    let p = err_from_is_err_and c.from_residual.result c.from_residual.ensures.1 in
    rw (p.1, p.2)
    (ap (λ (r : Result Sizes Fault). and_then r (λ s. rows_reading s.levels s.events (drop 3 c.args.bytes.now) 3)) c.in_err-header.ensures)

pub returns : goal.returns
unfolding chart_reading
returns c =
    let rest = take_rest c.args.bytes.now 3 in
    let rows = c.from_rows.ensures in
    let header = ap (λ (r : Result Sizes Fault). and_then r (λ s. rows_reading s.levels s.events (drop 3 c.args.bytes.now) 3)) c.in_ok-header.ensures in
    cc
