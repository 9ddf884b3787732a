use Rattle.std.proofs.Common.{sym, arith}
use Rattle.must_levels.proofs.Shapes.{power_one}
use Rattle.must_levels.proofs.shape.levels.Goals as goal

pub loop-covered-init : goal.loop-covered-init
loop-covered-init c =
    let two = c.requires.2 in
    record { some = omega arith; is = sym (power_one c.args.fan_in); small = omega (arith, two); lower = λ k a b. absurd (omega (arith, a, b)) }
