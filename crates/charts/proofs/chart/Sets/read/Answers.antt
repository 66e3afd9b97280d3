use Rattle.std.proofs.Common.{◌+◌, ◌*◌, length, refl, ap, arith}
use Rattle.std.proofs.lemmas.List.{length-drop}
use Rattle.std.proofs.lemmas.Result.{err_from_is_err_and}
use Rattle.charts.proofs.EventRows.{gathered_none, gathered-more, right-more, rest_more, row-says, row-wrong}
use Rattle.charts.proofs.chart.Sets.read.Goals as goal

pub loop-event-init : goal.loop-event-init
loop-event-init c = record { left = refl; gathered = gathered_none c.args.rows.now; right = λ i h. absurd (omega arith) }

pub unreachable-requires : goal.unreachable-requires
unreachable-requires c = omega (arith, ap length c.loop-event.invariant.left, length-drop (3 * c.loop-event.event) c.args.rows.now)

pub returns-in_err-row : goal.returns-in_err-row
returns-in_err-row c =
    let p = err_from_is_err_and c.from_residual.result c.from_residual.ensures.1 in
    rw (p.1, p.2)
    (row-wrong c.args.header.levels c.args.rows.now c.loop-event.event c.args.header.events c.args.origin (c.from.result + 3 * c.from-in-loop-event.result)
    c.loop-event.left.now c.in_err-row.field-0.0 (omega arith) (omega arith) c.loop-event.invariant.right c.loop-event.invariant.left c.in_err-row.ensures)

pub loop-event-preserved : goal.loop-event-preserved
loop-event-preserved c =
    let says = row-says c.args.header.levels c.args.rows.now c.loop-event.event c.loop-event.left.now c.in_ok-row.row
    (c.from.result + 3 * c.from-in-loop-event.result) c.loop-event.invariant.left c.in_ok-row.ensures in record {
      left = rest_more c.args.rows.now c.loop-event.left.now c.loop-event.event c.loop-event.invariant.left;
      gathered = gathered-more c.args.header.levels c.args.rows.now c.loop-event.event c.loop-event.sets c.with-sets.result c.in_ok-row.row says
          c.loop-event.invariant.gathered c.with-sets.ensures;
      right = right-more c.args.header.levels c.args.rows.now c.loop-event.event c.in_ok-row.row says c.loop-event.invariant.right;
    }
