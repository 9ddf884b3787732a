use Rattle.std.proofs.Common.{ap, ◌∙◌}
use Rattle.must_inbox.specs.States.{TakerState}
use Rattle.must_inbox.specs.Children.{batches_of}
use Rattle.must_levels.proofs.Moves.{finished}
use Rattle.must_levels.proofs.taking.finish_node.Goals as goal

pub returns-clause-finished : goal.returns-clause-finished
returns-clause-finished g c =
    let rest = c.in_ok-take_rest.ensures in
    let t = c.take_rest.new.taker in
    finished c.args.root _ _ c.args.below t c.take_rest.new.node c.take_rest.new.port c.add_node.result rest.passed rest.orderly rest.all
    (ap (λ (s : TakerState). s.ranges) rest.taken.taker_is ∙ ap (λ (s : TakerState). s.ranges) c.join_ports.ensures)
    (ap (λ (s : TakerState). s.joined) rest.taken.taker_is ∙ ap (λ (s : TakerState). s.joined) c.join_ports.ensures)
    (c.add_node.ensures.adds c.take_rest.new.port.range c.args.root (batches_of t.got) c.take_rest.new.port.sent rest.passed.stands rest.passed.lawful)
