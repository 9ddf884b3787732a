use Rattle.std.proofs.Common.{◌∙◌, ◌-◌, ap, drop, length, length-take, length-drop, arith}
use Rattle.must_codec.proofs.Windows.{took}
use Rattle.must_codec.proofs.window.Window.fill.Goals as goal

pub returns-clause-bytes : goal.returns-clause-bytes
returns-clause-bytes g c = λ rest is.
    let w = c.self.inside in
    let e = c.in_ok-count.ensures in
    took (w.to - w.from) c.in_ok-count.count c.args.self.now c.read_behind.new.bytes.items rest _ _ is
    (omega (arith, ap length c.self.view_is, length-take (w.to - w.from) (drop w.from w.bytes.items), length-drop w.from w.bytes.items, c.self.invariant.0, c.self.invariant.1, c.self.invariant.2))
    (e.front ∙ c.move_to_front.ensures.front ∙ c.self.view_is) (omega (arith, e.most, e.length, c.move_to_front.ensures.length, c.min.ensures, c.self.invariant.0, c.self.invariant.1, c.self.invariant.2)) e.bytes.0 e.bytes.1
