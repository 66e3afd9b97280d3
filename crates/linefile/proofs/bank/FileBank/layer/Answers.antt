use Rattle.std.proofs.Common.{arith}
use Rattle.std.proofs.lemmas.Bool.Decides.{nat_tests}
use Rattle.model.proofs.Bitwords.{member-zero}
use Rattle.linefile.proofs.bank.FileBank.layer.Goals as goal

pub returns-then-is_interface : goal.returns-then-is_interface
returns-then-is_interface c e = let z = member-zero e in grind (arith, nat_tests)
