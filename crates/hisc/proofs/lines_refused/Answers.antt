use Rattle.hisc.proofs.SmallLine as small
use Rattle.hisc.proofs.lines_refused.Goals as goal

pub returns : goal.returns
returns c = (small.lines-refused, small.always-refused)
