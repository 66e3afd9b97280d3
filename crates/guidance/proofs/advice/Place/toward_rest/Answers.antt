use Rattle.std.proofs.Common.{suc, ◌∙◌}
use Rattle.std.proofs.lemmas.Result.{err_from_is_err_and}
use Rattle.model.specs.Numbers.{first}
use Rattle.hisc.specs.Guide.{homeward, not_at_rest}
use Rattle.walks.specs.Rows.{row_state}
use Rattle.walks.specs.declared.aim.Aim.TheVariants.{AtRest}
use Rattle.walks.specs.Given.{line_given}
use Rattle.guidance.specs.Ready.{lent}
use Rattle.guidance.proofs.Lowest.{unrested-level}
use Rattle.guidance.proofs.Rules.{gives-ok, gives-refused, rest-step}
use Rattle.guidance.proofs.Ways.{nearest-is}
use Rattle.guidance.proofs.advice.Place.toward_rest.Goals as goal

pub returns-in_err-way : goal.returns-in_err-way
returns-in_err-way g c =
    let l = line_given g.B.Bank.list c.args.self.now.line.now in
    let x = row_state c.args.self.now.row.now in
    let cells = lent c.args.queue.now c.args.keys.now in
    let j = c.in-Some.level in
    let p = err_from_is_err_and c.from_residual.result c.from_residual.ensures.1 in
    rw p.1 (gives-refused l x cells (λ l x. homeward l (first (suc l.chart.levels) (not_at_rest l x)) x) (AtRest j) c.in_err-way.field-0.0 p.0
    (λ ready. ready.levels j (unrested-level l x j c.in-Some.ensures)) c.in_err-way.ensures.value)

pub returns : goal.returns
returns g c =
    let l = line_given g.B.Bank.list c.args.self.now.line.now in
    let x = row_state c.args.self.now.row.now in
    let cells = lent c.args.queue.now c.args.keys.now in
    let j = c.in-Some.level in
    let way = c.in_ok-way.way in
    gives-ok l x cells (λ l x. homeward l (first (suc l.chart.levels) (not_at_rest l x)) x) c.step.result
    (c.step.ensures ∙ rest-step l x j way (nearest-is l (AtRest j) x cells way c.in_ok-way.ensures.value) c.in-Some.ensures)
