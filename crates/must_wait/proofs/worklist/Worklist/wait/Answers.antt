use Rattle.std.proofs.Common.{◌++◌, ◌∷◌, [], ◌<◌, ◌+◌, length, sym, arith, ◌∙◌, slice_index, ap}
use Rattle.must_wait.specs.Watching.{state_of}
use Rattle.must_wait.specs.Shared.{coded}
use Rattle.must_wait.proofs.Watched.{wait_push, wait_has, index_is, rank_of_call}
use Rattle.must_wait.proofs.worklist.Worklist.wait.Goals as goal

pub returns-in_ok-push-clause-steps : goal.returns-in_ok-push-clause-steps
returns-in_ok-push-clause-steps c =
    let call = sym c.if-is_call.ensures in
    let first : c.args.place.rank < length c.args.self.now.first.items = omega (arith, rank_of_call (coded c.args.rows.now) c.args.place.rank c.args.place.call call, c.requires.ready.firsts) in
    let is = index_is c.args.self.now.first.items c.args.place.rank c.index.result.now 0 first c.index.ensures in
    let slot : c.index.result.now + c.args.place.call < length c.args.self.now.watches.items = omega (arith, c.requires.ready.slots c.args.place.rank c.args.place.call call) in
    wait_push (coded c.args.rows.now) (state_of c.args.self.now) (c.index.result.now + c.args.place.call) c.index_mut.result.now _ c.args.watch c.requires.ready slot c.index_mut.ensures.value (c.in_ok-push.ensures.items ∙ ap (λ l. l ++ c.args.watch ∷ []) c.behind-self.view_is)

pub returns-in_ok-push-clause-waits : goal.returns-in_ok-push-clause-waits
returns-in_ok-push-clause-waits c call =
    let first : c.args.place.rank < length c.args.self.now.first.items = omega (arith, rank_of_call (coded c.args.rows.now) c.args.place.rank c.args.place.call call, c.requires.ready.firsts) in
    let is = index_is c.args.self.now.first.items c.args.place.rank c.index.result.now 0 first c.index.ensures in
    let slot : c.index.result.now + c.args.place.call < length c.args.self.now.watches.items = omega (arith, c.requires.ready.slots c.args.place.rank c.args.place.call call) in
    wait_has c.args.self.now.watches.items (c.index.result.now + c.args.place.call) (slice_index c.args.self.now.first.items c.args.place.rank + c.args.place.call) _ _ c.args.watch slot (ap (λ k. k + c.args.place.call) is) c.in_ok-push.ensures.items
