use Rattle.std.proofs.Common.{◌^◌, ◌<◌, arith}
use Rattle.std.proofs.lemmas.Bool.Decides.{nat_tests}
use Rattle.model.proofs.Bitwords.{member-zero, none-zero}
use Rattle.model.proofs.set.EventSet.is_empty.Goals as goal

pub returns : goal.returns
returns c =
    let h : c.args.self.word < 2 ^ 64 = omega arith in (
      λ t e. grind (arith, nat_tests, member-zero e),
      λ f. grind (arith, nat_tests, none-zero c.args.self.word h f),
    )
