use Rattle.std.proofs.Common.{length}
use Rattle.line.proofs.Guiding.{measured}
use Rattle.line.proofs.Known.{checked_in}
use Rattle.line.proofs.passed.Passed.sizes.Goals as goal

pub unwrap-requires : goal.unwrap-requires
unwrap-requires g c =
    let p = c.args.self.now in
    measured _ (length (g.B.Bank.list p.line.bank)) (checked_in p).sizes c.of.result c.of.ensures
