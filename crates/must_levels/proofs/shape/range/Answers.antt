use Rattle.std.proofs.Common.{arith}
use Rattle.must_levels.proofs.Shapes.{power_at}
use Rattle.must_levels.proofs.shape.range.Goals as goal

pub pow-width-requires : goal.pow-width-requires
pow-width-requires c =
    let small = power_at c.args.n c.args.fan_in c.requires.level.0 c.args.level c.requires.shape c.requires.level.1 c.requires.level.2 in
    omega (arith, small)
