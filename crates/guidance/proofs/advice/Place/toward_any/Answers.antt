use Rattle.std.proofs.Common.{ap, ◌∙◌}
use Rattle.hisc.specs.Guide.{named, any_answer}
use Rattle.hisc.specs.declared.guide.Guidance.{Guidance}
use Rattle.walks.specs.Rows.{row_state}
use Rattle.walks.specs.declared.aim.Aim.TheVariants.{AnyAnswer}
use Rattle.walks.specs.Given.{line_given}
use Rattle.guidance.specs.Ready.{lent}
use Rattle.guidance.specs.Ready.{step_by}
use Rattle.guidance.proofs.Rules.{gives-ok, any_step}
use Rattle.guidance.proofs.Ways.{nearest-is}
use Rattle.guidance.proofs.advice.Place.toward_any.Goals as goal

pub returns : goal.returns
returns g c =
    let l = line_given g.B.Bank.list c.args.self.now.line.now in
    let x = row_state c.args.self.now.row.now in
    let cells = lent c.args.queue.now c.args.keys.now in
    let j = c.args.level in
    let way = c.in_ok-way.way in
    gives-ok l x cells (λ l x. any_answer l j x) c.step.result
    (c.step.ensures ∙ ap (λ (g : Guidance). step_by way g) (c.named.ensures ∙ ap named c.lowest_answer.ensures) ∙ any_step l x j way (nearest-is l (AnyAnswer j) x cells way c.in_ok-way.ensures.value))
