use Rattle.hisc.proofs.SmallLine as small
use Rattle.hisc.proofs.small_line_passes.Goals as goal

pub returns : goal.returns
returns c = (small.small-passes, small.choice-passes)
