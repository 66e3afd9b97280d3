use Rattle.std.proofs.Common.{ap, ◌∙◌}
use Rattle.std.proofs.lemmas.Result.{err_from_is_err_and}
use Rattle.charts.specs.Meanings.{header_meaning, chart_of}
use Rattle.linefile.specs.Layout.{contents_end, body_of, texts, Found}
use Rattle.linefile.specs.File.{event_reading}
use Rattle.linefile.proofs.FileSteps.{chart-off, chart-rows, bank-chart, bank-components, bank-whole}
use Rattle.linefile.proofs.Same.{list_same, rows-sizes}
use Rattle.linefile.proofs.bank.FileBank.read.Goals as goal

pub returns-in_err-contents : goal.returns-in_err-contents
returns-in_err-contents c =
    let p = err_from_is_err_and c.from_residual.result c.from_residual.ensures.1 in
    let e = c.in_err-contents.field-0.0 in
    rw (p.1, p.2) (bank-chart c.args.file.now e (chart-off c.args.file.now e c.in_err-contents.ensures.told))

pub returns-in_err-chart : goal.returns-in_err-chart
returns-in_err-chart c =
    let p = err_from_is_err_and c.from_residual-in_err-chart.result c.from_residual-in_err-chart.ensures.1 in
    let sizes = header_meaning c.in_ok-contents.contents.header in
    rw (p.1, p.2)
    (bank-chart c.args.file.now c.in_err-chart.field-0.0
    (c.in_err-chart.ensures ∙ ap (event_reading sizes) c.in_ok-contents.ensures.same ∙ chart-rows c.args.file.now sizes c.in_ok-contents.ensures.told))

-- the chart that was read is the file's, and has the sizes of the header
pub returns-in_err-read_components : goal.returns-in_err-read_components
returns-in_err-read_components c =
    let p = err_from_is_err_and c.from_residual-in_err-read_components.result c.from_residual-in_err-read_components.ensures.1 in
    let sizes = header_meaning c.in_ok-contents.contents.header in
    let f = c.in_ok-contents.contents.file.now in
    let z = rows-sizes sizes.levels sizes.events (body_of sizes.levels f 0) (contents_end sizes.levels) (chart_of c.in_ok-chart.chart) c.in_ok-chart.ensures in
    rw (p.1, p.2)
    (bank-components c.args.file.now (chart_of c.in_ok-chart.chart)
    (c.in_ok-chart.ensures ∙ ap (event_reading sizes) c.in_ok-contents.ensures.same ∙ chart-rows c.args.file.now sizes c.in_ok-contents.ensures.told)
    sizes.levels sizes.events f z.0 z.1 c.in_ok-contents.ensures.same c.in_err-read_components.field-0.0 c.in_err-read_components.ensures)

pub returns : goal.returns
returns c =
    let sizes = header_meaning c.in_ok-contents.contents.header in
    let f = c.in_ok-contents.contents.file.now in
    let z = rows-sizes sizes.levels sizes.events (body_of sizes.levels f 0) (contents_end sizes.levels) (chart_of c.in_ok-chart.chart) c.in_ok-chart.ensures in
    let found : Found (chart_of c.in_ok-chart.chart).levels c.args.file.now (texts c.in_ok-contents.contents.bodies) =
    rw (← z.0, ← c.in_ok-contents.ensures.same) c.in_ok-contents.contents.found in
    bank-whole c.args.file.now (chart_of c.in_ok-chart.chart)
    (c.in_ok-chart.ensures ∙ ap (event_reading sizes) c.in_ok-contents.ensures.same ∙ chart-rows c.args.file.now sizes c.in_ok-contents.ensures.told)
    sizes.levels sizes.events f z.0 z.1 c.in_ok-contents.ensures.same _ c.in_ok-read_components.ensures
    (list_same (chart_of c.in_ok-chart.chart) c.args.file.now (texts c.in_ok-contents.contents.bodies) found)
