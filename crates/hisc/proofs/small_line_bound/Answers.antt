use Rattle.std.proofs.Common.{refl, ◌∙◌}
use Rattle.hisc.specs.Sizes.{size, largest_low}
use Rattle.hisc.proofs.small_line_bound.Goals as goal

pub returns : goal.returns
unfolding size largest_low
returns c = c.most_offers.ensures ∙ refl
