use Rattle.std.proofs.Common.{◌≡◌, ◌+◌, ◌≤◌, ℕ, List, [], ◌∷◌, ◌++◌, length, map, take, drop, Err, OnOk, IfOk, Some, ◌^◌, refl, sym, ap, ◌∙◌, subst, rules}
use Rattle.must_entry.specs.declared.batch.Batch.{Batch}
use Rattle.must_entry.specs.declared.range.RankRange.{RankRange}
use Rattle.must_levels.specs.declared.fault.RunFault.TheVariants.{NoMemory}
use Rattle.must_inbox.specs.States.{TakerState, PortState}
use Rattle.must_levels.specs.Sending.{ArePorts, AreMoved, AreOfInbox, range_of_port, closing_of}
use Rattle.must_levels.specs.Running.{Ran, RanAll, Finished, Passed}
use Rattle.must_levels.proofs.PortLists.{of_inbox, moved_inbox, moved_length, lent}
use Rattle.must_levels.proofs.Moves.{moved_twice, can_again}
use Rattle.must_levels.proofs.Joins.{both_ran, none_ran, can_first, can_rest, child_ran}
use Rattle.must_levels.proofs.Nodes.{can_children, can_take, ended, new_port, no_memory}
use Rattle.must_levels.proofs.RankLists.{since_unread}
use Rattle.must_levels.proofs.tree.+tree.Goals as goal

pub run_both-returns : goal.run_both-returns
run_both-returns g t c =
    let first : Ran (g.M.RankReader.whole c.args.size) (g.M.RankReader.failed c.args.size) g.M.RankReader.since c.args.level c.args.from c.args.mine.now c.mine-1.given.0 c.args.port.now c.port-1.given.0 c.join_mut-first.result.0 = search rules in
    let second : RanAll (g.M.RankReader.whole c.args.size) (g.M.RankReader.failed c.args.size) g.M.RankReader.since c.args.level c.args.next c.args.rest.now c.rest-1.given.0 c.args.others.now c.others-1.given.0 c.join_mut-first.result.1 = search rules in
    both_ran (g.M.RankReader.whole c.args.size) (g.M.RankReader.failed c.args.size) g.M.RankReader.since c.args.level c.args.from c.args.next c.args.mine.now c.mine-1.given.0 c.args.rest.now c.rest-1.given.0 c.args.port.now c.port-1.given.0 c.args.others.now c.others-1.given.0 c.requires.next c.join_mut-first.result.0 c.join_mut-first.result.1 c.join_results.result first second c.join_results.ensures

pub run_child-returns : goal.run_child-returns
run_child-returns g t c =
    let other : c.args.level ≡ 0 → ⊥ = search rules in
    subst (λ r. Ran (g.M.RankReader.whole c.args.size) (g.M.RankReader.failed c.args.size) g.M.RankReader.since c.args.level c.args.from c.args.parts.now c.run_node.new.parts c.args.port.now c.run_node.new.port r) (sym c.as_child.ensures)
    (child_ran (g.M.RankReader.whole c.args.size) (g.M.RankReader.failed c.args.size) g.M.RankReader.since c.args.level c.args.from c.args.parts.now c.run_node.new.parts c.args.port.now c.run_node.new.port c.run_node.result other c.run_node.ensures)

pub run_children-returns-in_default : goal.run_children-returns-in_default
run_children-returns-in_default g t c =
    let none : length c.args.ports.now ≡ 0 = search rules in
    none_ran (g.M.RankReader.whole c.args.size) (g.M.RankReader.failed c.args.size) g.M.RankReader.since c.args.level c.args.from c.args.width c.args.inbox.now c.args.parts.now c.args.ports.now none c.requires.ports

pub run_children-run_both-requires-clause-mine : goal.run_children-run_both-requires-clause-mine
run_children-run_both-requires-clause-mine g t c =
    let ports : c.in-Some.port.now ∷ c.in-Some.others.now ≡ c.args.ports.now = search rules in
    let front = c.split_at_mut-mine.result.0.now in
    let back = c.split_at_mut-mine.result.1.now in
    let count : length front ≡ c.min-count.result = search rules in
    λ κs bounds. can_first g.M.RankReader.ready c.args.size c.args.inbox.now c.args.from c.args.width c.args.level c.args.fan_in c.args.parts.now front back c.in-Some.port.now c.args.ports.now c.in-Some.others.now c.requires ports c.split_at_mut-mine.ensures.value (count ∙ c.min-count.ensures)

pub run_children-run_both-requires-clause-rest : goal.run_children-run_both-requires-clause-rest
run_children-run_both-requires-clause-rest g t c =
    let ports : c.in-Some.port.now ∷ c.in-Some.others.now ≡ c.args.ports.now = search rules in
    let front = c.split_at_mut-mine.result.0.now in
    let back = c.split_at_mut-mine.result.1.now in
    let count : length front ≡ c.min-count.result = search rules in
    λ κs bounds. can_rest g.M.RankReader.ready c.args.size c.args.inbox.now c.args.from c.args.width c.args.level c.args.fan_in c.args.parts.now front back c.in-Some.port.now c.args.ports.now c.in-Some.others.now c.requires ports c.split_at_mut-mine.ensures.value (count ∙ c.min-count.ensures) (c.args.from + c.min-count.result) (ap (λ n. c.args.from + n) (sym count))

pub run_node-run_beside-ran-requires-clause-run : goal.run_node-run_beside-ran-requires-clause-run
run_node-run_beside-ran-requires-clause-run g t c =
    let to_is : c.args.from + length c.args.parts.now ≡ c.args.from + length c.args.parts.now = refl in
    let width : c.pow-width.result ≡ c.args.fan_in ^ c.args.level = search rules in
    λ κs bounds. can_children g.M.RankReader.ready c.args.size c.args.upper.now c.in_ok-inbox.inbox c.args.from c.args.parts.now c.pow-width.result _ c.args.level c.args.fan_in c.args.port.now c.as_mut_slice.result.now c.requires to_is width
    (subst (λ l. ArePorts c.in_ok-inbox.inbox c.pow-width.result (c.args.from + length c.args.parts.now) (c.args.from + length c.args.parts.now) c.args.from l) (sym c.as_mut_slice.ensures.value) c.in_ok-ports.ensures.ports)
    (subst (λ (l : List PortState). length l ≤ 64) (sym c.as_mut_slice.ensures.value) c.in_ok-ports.ensures.few)

pub run_node-run_beside-ran-requires-clause-take : goal.run_node-run_beside-ran-requires-clause-take
run_node-run_beside-ran-requires-clause-take g t c =
    let fresh = c.in_ok-inbox.ensures in
    let made : c.make_ports.new.taker ≡ record { inbox = c.in_ok-inbox.inbox; ranges = map range_of_port c.in_ok-ports.ports.items; joined = []; got = [] } =
    c.in_ok-ports.ensures.taker ∙ ap (λ (s : TakerState). record s { ranges = map range_of_port c.in_ok-ports.ports.items }) fresh in
    λ κs bounds. can_take c.args.root c.in_ok-inbox.inbox c.args.upper.now c.pow-width.result (c.args.from + length c.args.parts.now) c.args.from c.make_ports.new.taker c.in_ok-node.node c.args.port.now c.in_ok-ports.ports.items made c.requires.inbox_is c.requires.fresh c.requires.range c.in_ok-ports.ensures.ports c.in_ok-node.ensures

pub run_node-finish_node-requires-clause-take : goal.run_node-finish_node-requires-clause-take
run_node-finish_node-requires-clause-take g t c =
    let fresh = c.in_ok-inbox.ensures in
    let made : c.make_ports.new.taker ≡ record { inbox = c.in_ok-inbox.inbox; ranges = map range_of_port c.in_ok-ports.ports.items; joined = []; got = [] } =
    c.in_ok-ports.ensures.taker ∙ ap (λ (s : TakerState). record s { ranges = map range_of_port c.in_ok-ports.ports.items }) fresh in
    let can = can_take c.args.root c.in_ok-inbox.inbox c.args.upper.now c.pow-width.result (c.args.from + length c.args.parts.now) c.args.from c.make_ports.new.taker c.in_ok-node.node c.args.port.now c.in_ok-ports.ports.items made c.requires.inbox_is c.requires.fresh c.requires.range c.in_ok-ports.ensures.ports c.in_ok-node.ensures in
    let passed : Passed c.args.root c.run_beside-ran.new.taker c.run_beside-ran.new.node c.run_beside-ran.new.port = subst (λ r. OnOk r (Passed c.args.root c.run_beside-ran.new.taker c.run_beside-ran.new.node c.run_beside-ran.new.port)) c.in_ok-taken-in-Ok.was c.run_beside-ran.ensures.passed in
    can_again c.args.root c.in_ok-inbox.inbox c.args.upper.now c.make_ports.new.taker c.run_beside-ran.new.taker c.in_ok-node.node c.run_beside-ran.new.node c.args.port.now c.run_beside-ran.new.port can c.run_beside-ran.ensures.taken passed

pub run_node-finish_node-requires-clause-ports : goal.run_node-finish_node-requires-clause-ports
run_node-finish_node-requires-clause-ports g t c =
    let items = c.in_ok-ports.ports.items in
    let new = c.run_beside-ran.new.ports in
    let moved : AreMoved items new = subst (λ (l : List PortState). AreMoved l new) c.as_mut_slice.ensures.value c.run_beside-ran.ensures.ran.ports in
    let len : c.in_ok-ports.ports.len ≡ length items = search rules in
    let whole = lent c.in_ok-ports.ports.len items new (moved_length items new moved) len in
    subst (AreOfInbox c.in_ok-inbox.inbox) (sym whole) (moved_inbox c.in_ok-inbox.inbox items new moved (of_inbox c.in_ok-inbox.inbox c.pow-width.result _ _ c.args.from items c.in_ok-ports.ensures.ports))

pub run_node-returns-in_err-inbox : goal.run_node-returns-in_err-inbox
run_node-returns-in_err-inbox g t c =
    let full : c.from_residual.result ≡ Err NoMemory = search rules in
    let after = since_unread g.M.RankReader.ready g.M.RankReader.since (g.met.M.RankReader g.world.𝓛 g.world.𝓜 g.world.𝓡 ((λ s x. x), (λ x. x), (λ x. x), λ x. x)).untouched c.args.parts.now c.requires.unread in
    no_memory c.args.root (g.M.RankReader.whole c.args.size) (g.M.RankReader.failed c.args.size) g.M.RankReader.since c.args.from c.args.parts.now c.args.parts.now c.args.port.now c.args.port.now c.from_residual.result full after (new_port c.args.port.now c.requires.fresh)

pub run_node-returns-in_err-ports : goal.run_node-returns-in_err-ports
run_node-returns-in_err-ports g t c =
    let full : c.from_residual-in_err-ports.result ≡ Err NoMemory = search rules in
    let after = since_unread g.M.RankReader.ready g.M.RankReader.since (g.met.M.RankReader g.world.𝓛 g.world.𝓜 g.world.𝓡 ((λ s x. x), (λ x. x), (λ x. x), λ x. x)).untouched c.args.parts.now c.requires.unread in
    no_memory c.args.root (g.M.RankReader.whole c.args.size) (g.M.RankReader.failed c.args.size) g.M.RankReader.since c.args.from c.args.parts.now c.args.parts.now c.args.port.now c.args.port.now c.from_residual-in_err-ports.result full after (new_port c.args.port.now c.requires.fresh)

pub run_node-returns-in_err-node : goal.run_node-returns-in_err-node
run_node-returns-in_err-node g t c =
    let full : c.from_residual-in_err-node.result ≡ Err NoMemory = search rules in
    let after = since_unread g.M.RankReader.ready g.M.RankReader.since (g.met.M.RankReader g.world.𝓛 g.world.𝓜 g.world.𝓡 ((λ s x. x), (λ x. x), (λ x. x), λ x. x)).untouched c.args.parts.now c.requires.unread in
    no_memory c.args.root (g.M.RankReader.whole c.args.size) (g.M.RankReader.failed c.args.size) g.M.RankReader.since c.args.from c.args.parts.now c.args.parts.now c.args.port.now c.args.port.now c.from_residual-in_err-node.result full after (new_port c.args.port.now c.requires.fresh)

pub run_node-returns : goal.run_node-returns
run_node-returns g t c =
    let fresh = c.in_ok-inbox.ensures in
    let items = c.in_ok-ports.ports.items in
    let new = c.run_beside-ran.new.ports in
    let moved : AreMoved items new = subst (λ (l : List PortState). AreMoved l new) c.as_mut_slice.ensures.value c.run_beside-ran.ensures.ran.ports in
    let len : c.in_ok-ports.ports.len ≡ length items = search rules in
    let whole = lent c.in_ok-ports.ports.len items new (moved_length items new moved) len in
    let taker_is = c.run_beside-ran.ensures.taken.taker_is in
    let made = c.in_ok-ports.ensures.taker in
    let ranges : c.run_beside-ran.new.taker.ranges ≡ map range_of_port items = ap (λ (s : TakerState). s.ranges) taker_is ∙ ap (λ (s : TakerState). s.ranges) made in
    let none : c.run_beside-ran.new.taker.joined ≡ [] = ap (λ (s : TakerState). s.joined) taker_is ∙ (ap (λ (s : TakerState). s.joined) made ∙ ap (λ (s : TakerState). s.joined) fresh) in
    let joined : c.run_beside-ran.new.taker.joined ++ map closing_of (take c.in_ok-ports.ports.len (new ++ drop (length new) items)) ≡ map closing_of new = λ i. none i ++ map closing_of (whole i) in
    let port = moved_twice c.args.port.now c.run_beside-ran.new.port c.finish_node.new.port c.run_beside-ran.ensures.taken.port_is c.finish_node.ensures.port in
    let range = ap (λ (s : PortState). s.range) port.0 ∙ c.requires.range in
    let all : RanAll (g.M.RankReader.whole c.args.size) (g.M.RankReader.failed c.args.size) g.M.RankReader.since c.args.level c.args.from c.args.parts.now c.run_beside-ran.new.parts items new c.run_beside-ran.result.0 = subst (λ (l : List PortState). RanAll (g.M.RankReader.whole c.args.size) (g.M.RankReader.failed c.args.size) g.M.RankReader.since c.args.level c.args.from c.args.parts.now c.run_beside-ran.new.parts l new c.run_beside-ran.result.0) c.as_mut_slice.ensures.value c.run_beside-ran.ensures.ran in
    ended c.args.root (g.M.RankReader.whole c.args.size) (g.M.RankReader.failed c.args.size) g.M.RankReader.since c.args.level c.args.from (c.args.from + length c.args.parts.now) c.pow-width.result c.in_ok-inbox.inbox c.args.parts.now c.run_beside-ran.new.parts items new c.finish_node.new.port c.in_ok-ports.ensures.ports c.in_ok-ports.ensures.placed moved range refl
    c.args.port.now c.in-Ok.below c.run_beside-ran.result.0 c.finish_node.result c.in-Ok.is port all
    (subst (λ (x : List RankRange × List (ℕ × List Batch)). IfOk c.finish_node.result (λ closed. Finished c.args.root x.0 x.1 c.in-Ok.below c.finish_node.new.port (Some closed))) (λ i. (ranges i, joined i)) c.finish_node.ensures.finished)
    c.finish_node.ensures.err
