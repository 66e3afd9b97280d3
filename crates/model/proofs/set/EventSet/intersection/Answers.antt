use Rattle.model.proofs.Bitwords.{member-and}
use Rattle.model.proofs.set.EventSet.intersection.Goals as goal

pub returns : goal.returns
returns c = member-and c.args.self.word c.args.other.word
