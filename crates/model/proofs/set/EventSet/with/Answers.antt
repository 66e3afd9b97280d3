use Rattle.model.proofs.Bitwords.{member-with}
use Rattle.model.proofs.set.EventSet.with.Goals as goal

pub returns-then-event-lt64 : goal.returns-then-event-lt64
returns-then-event-lt64 c = member-with c.args.self.word c.args.event c.if-event-lt64.true
