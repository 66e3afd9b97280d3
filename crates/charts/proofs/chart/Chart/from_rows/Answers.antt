use Rattle.std.proofs.Common.{◌∙◌, arith}
use Rattle.std.proofs.lemmas.Result.{err_from_is_err_and}
use Rattle.charts.specs.Meanings.{chart_of}
use Rattle.charts.specs.Sets.{chart_from}
use Rattle.charts.proofs.Gathering.{gathered-agree}
use Rattle.charts.proofs.Levels.{owns-request, owns-answer}
use Rattle.charts.proofs.Readings.{rows_other, rows-wrong, rows_right}
use Rattle.charts.proofs.chart.Chart.from_rows.Goals as goal

pub returns-then-rows-size : goal.returns-then-rows-size
returns-then-rows-size c =
    let other = rows_other c.args.header.levels c.args.header.events c.args.rows.now c.args.origin (omega arith) in
    cc

pub returns-in_err-sets : goal.returns-in_err-sets
returns-in_err-sets c =
    let p = err_from_is_err_and c.from_residual.result c.from_residual.ensures.1 in
    rw (p.1, p.2)
    (rows-wrong c.args.header.levels c.args.header.events c.args.rows.now c.args.origin c.in_err-sets.field-0.0 (omega arith)
    c.in_err-sets.ensures)

pub complete-requires : goal.complete-requires
complete-requires c =
    gathered-agree c.args.header.levels c.args.header.events c.args.rows.now c.in_ok-sets.sets c.args.header.sizes.1
    c.in_ok-sets.ensures.0 c.in_ok-sets.ensures.1

pub returns-in_err-complete : goal.returns-in_err-complete
returns-in_err-complete c =
    let p = err_from_is_err_and c.from_residual-in_err-complete.result c.from_residual-in_err-complete.ensures.1 in
    rw (p.1, p.2)
    (c.in_err-complete.ensures
    ∙ rows_right c.args.header.levels c.args.header.events c.args.rows.now c.args.origin c.in_ok-sets.sets c.args.header.sizes.1
    (omega arith) c.in_ok-sets.ensures.0 c.in_ok-sets.ensures.1)

pub invariant_of-result : goal.invariant_of-result
unfolding chart_from
invariant_of-result c =
    let held = chart_from c.args.header.levels c.args.header.events c.in_ok-sets.sets in record {
      agree = gathered-agree c.args.header.levels c.args.header.events c.args.rows.now c.in_ok-sets.sets c.args.header.sizes.1
          c.in_ok-sets.ensures.0 c.in_ok-sets.ensures.1;
      asked = owns-request held held c.in_ok-complete.ensures;
      answered = owns-answer held held c.in_ok-complete.ensures;
    }

pub returns : goal.returns
unfolding chart_of
returns c =
    c.in_ok-complete.ensures
    ∙ rows_right c.args.header.levels c.args.header.events c.args.rows.now c.args.origin c.in_ok-sets.sets c.args.header.sizes.1
    (omega arith) c.in_ok-sets.ensures.0 c.in_ok-sets.ensures.1
