use Rattle.std.proofs.Common.{refl}
use Rattle.hisc.specs.Calls.{Restart, restarted}
use Rattle.line.proofs.Answering.{answered-put}
use Rattle.line.proofs.running.Running.restart.Goals as goal

pub returns : goal.returns
returns g c = answered-put _ _ refl c.begin-self.ensures.runs Restart restarted refl c.begin-self.ensures.state
