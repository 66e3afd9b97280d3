use Rattle.std.proofs.Common.{◌≡◌, Some, sym, ◌∙◌}
use Rattle.model.specs.declared.kind.Kind.TheVariants.{Answer}
use Rattle.charts.proofs.Rules.{well-charted}
use Rattle.charts.specs.Alphabets.{kind_at}
use Rattle.charts.specs.Meanings.{chart_of}
use Rattle.guidance.proofs.Rules.{owner-level}
use Rattle.guidance.proofs.advice.Place.toward_wanted.Goals as goal

pub toward_answer-requires : goal.toward_answer-requires
toward_answer-requires g c =
    let chart = c.args.self.now.line.now.chart in
    let told = c.in-Some-Answer-Some.ensures in
    let kind : kind_at (chart_of chart) c.args.event ≡ Some Answer = cc in
    owner-level (chart_of chart) (well-charted chart) c.args.event c.in-Some-Answer-Some.level kind (sym c.owner.ensures ∙ c.in-Some-Answer-Some.is-1)
