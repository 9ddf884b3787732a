use Rattle.must_p2p.proofs.Rows.{adds_pushed_as}
use Rattle.must_p2p.proofs.queue.collect.Goals as goal

pub returns-in_ok-push-in-Some : goal.returns-in_ok-push-in-Some
returns-in_ok-push-in-Some c = adds_pushed_as c.args.rows.now.items c.push.new.self.items c.args.finding c.in-Some.finding c.in-Some.is c.in_ok-push-in-Some.ensures.items
