use Rattle.std.proofs.Common.{◌∙◌, ◌-◌, ap, drop, length, length-take, arith}
use Rattle.must_codec.proofs.Windows.{skipped}
use Rattle.must_codec.proofs.window.Window.skip.Goals as goal

pub returns : goal.returns
returns c =
    let w = c.self.inside in
    skipped w.bytes.items w.from w.to c.args.count (omega (arith, c.requires, ap length c.self.view_is, length-take (w.to - w.from) (drop w.from w.bytes.items), c.self.invariant.0)) ∙ ap (drop c.args.count) c.self.view_is
