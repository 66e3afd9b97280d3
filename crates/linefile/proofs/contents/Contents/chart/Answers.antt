use Rattle.std.proofs.Common.{sym, ap₂, ◌∙◌, arith}
use Rattle.charts.specs.Rows.{rows_reading}
use Rattle.linefile.proofs.Banked.{text_at}
use Rattle.linefile.proofs.contents.Contents.chart.Goals as goal

pub returns : goal.returns
returns c =
    let contents = c.args.self.now in
    let n = c.type_inv.self in
    let body = sym (text_at contents.bodies 0 _ (omega (arith, n))) ∙ contents.found 0 (omega arith) in
    let end = c.contents_end-end.ensures in
    c.from_rows.ensures ∙ ap₂ (rows_reading contents.header.levels contents.header.events) body end
