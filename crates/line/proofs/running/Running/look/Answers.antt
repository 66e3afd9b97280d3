use Rattle.line.proofs.Answering.{answered-look}
use Rattle.line.proofs.running.Running.look.Goals as goal

pub returns : goal.returns
returns g c = answered-look c.args.self.now
