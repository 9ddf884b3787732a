use Rattle.std.proofs.Common.{◌≡◌, max, arith}
use Rattle.must_type.proofs.Rows.{depth_step}
use Rattle.must_type.proofs.forms.deepest.Goals as goal

pub loop-i-preserved : goal.loop-i-preserved
loop-i-preserved c =
    let m : c.max-depth.result ≡ max c.loop-i.depth c.old_facts.result.depth = grind (arith, c.max-depth.ensures) in
    record {
      value = depth_step c.args.olds.now c.loop-i.i c.loop-i.depth c.max-depth.result c.old_facts.result c.loop-i-test.true c.old_facts.ensures.value c.loop-i.invariant.value m;
      shallow = omega (arith, m, c.old_facts.ensures.shallow, c.loop-i.invariant.shallow);
    }
