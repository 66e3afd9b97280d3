use Rattle.std.proofs.Common.{suc, min, sym, ◌∙◌, ap₂}
use Rattle.model.specs.Numbers.{first}
use Rattle.hisc.specs.Guide.{by_kind, homeward, not_at_rest, guide}
use Rattle.hisc.specs.declared.guide.Guidance.TheVariants.{NoEvent}
use Rattle.walks.specs.Rows.{row_state}
use Rattle.walks.specs.declared.aim.Aim.TheVariants.{HighMarked}
use Rattle.walks.specs.Given.{line_given}
use Rattle.guidance.specs.Ready.{lent}
use Rattle.guidance.proofs.Rules.{gives-ok, gives-on, guide-none, guide-here, guide-by}
use Rattle.guidance.proofs.Ways.{nearest-is}
use Rattle.guidance.proofs.advice.Place.advice.Goals as goal

pub toward_wanted-requires : goal.toward_wanted-requires
toward_wanted-requires g c =
    let l = line_given g.B.Bank.list c.args.self.now.line.now in
    let x = row_state c.args.self.now.row.now in
    let cells = lent c.args.queue.now c.args.keys.now in
    let way = nearest-is l HighMarked x cells c.in_ok-nearest.field-0 c.in_ok-nearest.ensures.value in
    (guide-by l x c.in-By.event c.in-By.distance (sym c.in-By.is ∙ way)).0

pub returns-in-Unreachable : goal.returns-in-Unreachable
returns-in-Unreachable g c =
    let l = line_given g.B.Bank.list c.args.self.now.line.now in
    let x = row_state c.args.self.now.row.now in
    let cells = lent c.args.queue.now c.args.keys.now in
    let way = nearest-is l HighMarked x cells c.in_ok-nearest.field-0 c.in_ok-nearest.ensures.value in
    gives-ok l x cells (λ l x. guide l x) NoEvent (guide-none l x (sym c.in-Unreachable.is ∙ way))

pub returns-in-Here : goal.returns-in-Here
returns-in-Here g c =
    let l = line_given g.B.Bank.list c.args.self.now.line.now in
    let x = row_state c.args.self.now.row.now in
    let cells = lent c.args.queue.now c.args.keys.now in
    let way = nearest-is l HighMarked x cells c.in_ok-nearest.field-0 c.in_ok-nearest.ensures.value in
    gives-on l x (lent c.nearest.new.queue c.nearest.new.keys) cells (λ l x. homeward l (first (suc l.chart.levels) (not_at_rest l x)) x) (λ l x. guide l x) c.toward_rest.result
    c.toward_rest.ensures (ap₂ min c.nearest.auto.queue c.nearest.auto.keys) (guide-here l x (sym c.in-Here.is ∙ way))

pub returns-in-By : goal.returns-in-By
returns-in-By g c =
    let l = line_given g.B.Bank.list c.args.self.now.line.now in
    let x = row_state c.args.self.now.row.now in
    let cells = lent c.args.queue.now c.args.keys.now in
    let e = c.in-By.event in
    let way = nearest-is l HighMarked x cells c.in_ok-nearest.field-0 c.in_ok-nearest.ensures.value in
    gives-on l x (lent c.nearest.new.queue c.nearest.new.keys) cells (λ l x. by_kind l (l.chart.kind e) e x) (λ l x. guide l x) c.toward_wanted.result
    c.toward_wanted.ensures (ap₂ min c.nearest.auto.queue c.nearest.auto.keys) (guide-by l x e c.in-By.distance (sym c.in-By.is ∙ way)).1
