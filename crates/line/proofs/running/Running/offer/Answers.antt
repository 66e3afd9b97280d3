use Rattle.std.proofs.Common.{refl}
use Rattle.std.proofs.lemmas.Result.{err_from_is_err_and}
use Rattle.line.proofs.Answering.{answered-refused, answered-accepted}
use Rattle.line.proofs.running.Running.offer.Goals as goal

pub returns-in_err-self : goal.returns-in_err-self
returns-in_err-self g c =
    let p = err_from_is_err_and c.from_residual.result c.from_residual.ensures.1 in
    rw (p.1, p.2) (answered-refused c.args.self.now c.args.event c.in_err-self.field-0.0 c.in_err-self.ensures)

pub returns : goal.returns
returns g c = answered-accepted _ _ refl c.args.event c.in_ok-self.ensures
