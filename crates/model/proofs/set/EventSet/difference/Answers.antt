use Rattle.std.proofs.Common.{◌^◌, ◌<◌, arith}
use Rattle.model.proofs.Bitwords.{member-less}
use Rattle.model.proofs.set.EventSet.difference.Goals as goal

pub returns : goal.returns
returns c = let h : c.args.other.word < 2 ^ 64 = omega arith in member-less c.args.self.word c.args.other.word h
