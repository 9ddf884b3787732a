use Rattle.std.proofs.Common.{◌≡◌, subst, IfOk, OnOk, Option, Some}
use Rattle.std.specs.Option.{option_map}
use Rattle.must_find.specs.Adds.{Adds}
use Rattle.must_p2p.specs.declared.waiting.Waiting.{Waiting}
use Rattle.must_p2p.specs.Queues.{pair_matches_as, pair_breaks}
use Rattle.must_p2p.proofs.Steps.{on_three}
use Rattle.must_p2p.proofs.Meet.{found_sent, found_received, with_sent, with_received, queue_sent, queue_received}
use Rattle.must_p2p.proofs.queue.Queue.take.Goals as goal

pub returns-in-Send-clause-found : goal.returns-in-Send-clause-found
returns-in-Send-clause-found c = λ s r q.
    subst (λ (o : Option (Waiting × Waiting)). IfOk c.take_send.result (λ m. m ≡ option_map pair_matches_as o)) (found_sent c.args.side s r c.args.item c.args.self.now c.in-Send.is q) c.take_send.ensures.found

pub returns-in-Send-clause-rows : goal.returns-in-Send-clause-rows
returns-in-Send-clause-rows c = λ s r q.
    subst (λ (o : Option (Waiting × Waiting)). OnOk c.take_send.result (Adds c.args.out.now c.take_send.new.out (λ f. option_map pair_breaks o ≡ Some (Some f)))) (found_sent c.args.side s r c.args.item c.args.self.now c.in-Send.is q)
    c.take_send.ensures.rows

pub returns-in-Send-clause-queue : goal.returns-in-Send-clause-queue
returns-in-Send-clause-queue c = λ s r q.
    on_three c.take_send.result c.take_send.ensures.waits c.take_send.ensures.sent c.take_send.ensures.received
    (λ w n m. with_sent c.args.side s r c.args.item c.take_send.new.self c.in-Send.is (queue_sent s r c.args.item c.args.self.now c.take_send.new.self q w n m))

pub returns-in-Receive-clause-found : goal.returns-in-Receive-clause-found
returns-in-Receive-clause-found c = λ s r q.
    subst (λ (o : Option (Waiting × Waiting)). IfOk c.take_receive.result (λ m. m ≡ option_map pair_matches_as o)) (found_received c.args.side s r c.args.item c.args.self.now c.in-Receive.is q) c.take_receive.ensures.found

pub returns-in-Receive-clause-rows : goal.returns-in-Receive-clause-rows
returns-in-Receive-clause-rows c = λ s r q.
    subst (λ (o : Option (Waiting × Waiting)). OnOk c.take_receive.result (Adds c.args.out.now c.take_receive.new.out (λ f. option_map pair_breaks o ≡ Some (Some f))))
    (found_received c.args.side s r c.args.item c.args.self.now c.in-Receive.is q) c.take_receive.ensures.rows

pub returns-in-Receive-clause-queue : goal.returns-in-Receive-clause-queue
returns-in-Receive-clause-queue c = λ s r q.
    on_three c.take_receive.result c.take_receive.ensures.waits c.take_receive.ensures.received c.take_receive.ensures.sent
    (λ w n m. with_received c.args.side s r c.args.item c.take_receive.new.self c.in-Receive.is (queue_received s r c.args.item c.args.self.now c.take_receive.new.self q w n m))
