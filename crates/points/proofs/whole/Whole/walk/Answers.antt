use Rattle.std.proofs.Common.{arith}
use Rattle.measure.proofs.WalkSizes.{refused-large}
use Rattle.points.specs.Whole.{line_whole}
use Rattle.points.proofs.Known.{made-whole, part-few}
use Rattle.points.proofs.whole.Whole.walk.Goals as goal

pub unreachable-requires : goal.unreachable-requires
unreachable-requires g c =
    let w = c.args.self.now in
    omega (arith, part-few w c.args.part c.requires, refused-large (line_whole w) (made-whole w) c.args.part c.requires _ c.in_default.ensures)
