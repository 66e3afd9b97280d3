use Rattle.std.proofs.Common.{◌≡◌, min, sym, ◌∙◌, ap₂, rules}
use Rattle.hisc.specs.Guide.{answer_or, low_distance}
use Rattle.hisc.specs.Points.{to_answer}
use Rattle.walks.specs.Rows.{row_state}
use Rattle.walks.specs.declared.aim.Aim.TheVariants.{Answer}
use Rattle.walks.specs.Given.{line_given}
use Rattle.guidance.specs.Ready.{lent}
use Rattle.guidance.proofs.Rules.{gives-ok, falls-back, answer-step}
use Rattle.guidance.proofs.Ways.{nearest-is}
use Rattle.guidance.proofs.advice.Place.toward_answer.Goals as goal

pub returns-in-Unreachable : goal.returns-in-Unreachable
returns-in-Unreachable g c =
    let l = line_given g.B.Bank.list c.args.self.now.line.now in
    let x = row_state c.args.self.now.row.now in
    let cells = lent c.args.queue.now c.args.keys.now in
    let j = c.args.level in
    let a = c.args.event in
    let way = nearest-is l (Answer j a) x cells c.in_ok-way.way c.in_ok-way.ensures.value in
    let left = lent c.nearest.new.queue c.nearest.new.keys in
    let same : left ≡ cells = ap₂ min c.nearest.auto.queue c.nearest.auto.keys in
    let none = sym c.in-Unreachable.is ∙ way in
    search (rules, falls-back l x left cells j a same none)

pub returns-in_default : goal.returns-in_default
returns-in_default g c =
    let l = line_given g.B.Bank.list c.args.self.now.line.now in
    let x = row_state c.args.self.now.row.now in
    let cells = lent c.args.queue.now c.args.keys.now in
    let j = c.args.level in
    let a = c.args.event in
    let way = nearest-is l (Answer j a) x cells c.in_ok-way.way c.in_ok-way.ensures.value in
    gives-ok l x cells (λ l x. answer_or l j a x (low_distance l j (to_answer l j a) x)) c.step.result (c.step.ensures ∙ answer-step l x j a c.in_ok-way.way way c.in_default.not-Unreachable)
