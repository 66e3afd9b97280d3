use Rattle.std.proofs.Common.{ℕ, ap, ◌∙◌, ap₂, rules}
use Rattle.charts.specs.Meanings.{chart_of}
use Rattle.charts.proofs.Rules.{well-charted}
use Rattle.hisc.specs.Sizes.{bound_of}
use Rattle.measure.specs.Measured.{greatest_low}
use Rattle.measure.specs.declared.sizes.WalkSizes.{WalkSizes}
use Rattle.measure.proofs.WalkSizes.{greatest-low}
use Rattle.line.specs.Answers.{line_in}
use Rattle.line.proofs.Known.{checked_in}
use Rattle.line.proofs.running.Running.most_offers.Goals as goal

pub overflow_cast-low : goal.overflow_cast-low
overflow_cast-low g c = let known = checked_in c.args.self.now.passed in search rules

pub returns : goal.returns
returns g c =
    let k = c.args.self.now.passed.line.chart in
    let sizes = c.sizes-sizes.ensures in
    let low = c.largest_low-low.ensures ∙ ap greatest_low sizes ∙ greatest-low (line_in c.args.self.now) (well-charted k).few_levels in
    let most =
    c.most_offers.ensures ∙ ap (λ (n : ℕ). bound_of n c.sizes-sizes.result.high c.largest_low-low.result) c.levels.ensures.value
    ∙ ap₂ (bound_of (chart_of k).levels) (ap (λ (z : WalkSizes). z.high) sizes) low
    in
    search (rules, most)
