use Rattle.std.proofs.Common.{ap, ◌*◌}
use Rattle.must_sig.proofs.Ahead.{one_run, one_ready}
use Rattle.must_sig.proofs.place.start.Goals as goal

pub returns-clause-ahead : goal.returns-clause-ahead
returns-clause-ahead c = one_run c.args.unit.now c.args.times (c.args.times * c.from.result) _ c.if-unit-ne1.false (ap (λ n. c.args.times * n) c.from.ensures)

pub returns-clause-ready : goal.returns-clause-ready
returns-clause-ready c = one_ready c.args.unit.now (c.args.times * c.from.result) _ c.if-unit-ne1.false
