use Rattle.model.proofs.Bitwords.{member-test}
use Rattle.model.proofs.set.EventSet.contains.Goals as goal

pub returns-then-event-lt64 : goal.returns-then-event-lt64
returns-then-event-lt64 c = member-test c.args.self.word c.args.event c.if-event-lt64.true
