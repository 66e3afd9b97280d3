use Rattle.model.proofs.Bitwords.{member-or}
use Rattle.model.proofs.set.EventSet.union.Goals as goal

pub returns : goal.returns
returns c = member-or c.args.self.word c.args.other.word
