use Rattle.std.proofs.Common.{ap, ◌∙◌}
use Rattle.std.proofs.lemmas.Result.{err_from_is_err_and}
use Rattle.charts.specs.Meanings.{header_meaning}
use Rattle.linefile.specs.File.{event_reading}
use Rattle.linefile.proofs.FileSteps.{chart-off, chart-rows}
use Rattle.linefile.proofs.chart.read_chart.Goals as goal

pub returns-in_err-read : goal.returns-in_err-read
returns-in_err-read c =
    let p = err_from_is_err_and c.from_residual.result c.from_residual.ensures.1 in
    rw (p.1, p.2) (chart-off c.args.file.now c.in_err-read.field-0.0 c.in_err-read.ensures.told)

pub returns : goal.returns
returns c =
    let sizes = header_meaning c.in_ok-read.field-0.header in
    c.chart.ensures ∙ ap (event_reading sizes) c.in_ok-read.ensures.same ∙ chart-rows c.args.file.now sizes c.in_ok-read.ensures.told
