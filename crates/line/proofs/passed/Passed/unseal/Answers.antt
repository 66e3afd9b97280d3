use Rattle.std.proofs.Common.{refl}
use Rattle.line.proofs.Known.{checked_in}
use Rattle.line.proofs.passed.Passed.unseal.Goals as goal

pub returns : goal.returns
returns g c = (refl, checked_in c.args.self)
