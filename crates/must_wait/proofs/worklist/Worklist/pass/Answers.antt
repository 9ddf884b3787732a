use Rattle.std.proofs.Common.{◌<◌, ◌+◌, length, sym, ap, ◌∙◌, refl, arith, slice_index}
use Rattle.std.proofs.lemmas.List.{get_or-set_same}
use Rattle.must_wait.specs.Counted.{counted}
use Rattle.must_wait.specs.Needs.{needs_of}
use Rattle.must_wait.specs.Watching.{state_of}
use Rattle.must_wait.specs.Shared.{coded}
use Rattle.must_wait.proofs.Watched.{pass_push, pass_last, index_is, rank_of_call, call_with_way}
use Rattle.must_wait.proofs.worklist.Worklist.pass.Goals as goal

pub returns-in_ok-push-clause-steps : goal.returns-in_ok-push-clause-steps
returns-in_ok-push-clause-steps c =
    let done = c.args.self.now.done.items in
    let inside : c.args.rank < length done = omega (arith, rank_of_call (coded c.args.rows.now) c.args.rank (slice_index done c.args.rank) (call_with_way (coded c.args.rows.now) (counted done) (needs_of (coded c.args.rows.now) c.args.rank (slice_index done c.args.rank)) c.requires.way), c.requires.ready.sound.ranks) in
    pass_push (coded c.args.rows.now) (state_of c.args.self.now) c.args.rank c.index.result.now _ c.push.new.self.items c.requires.ready (index_is done c.args.rank c.index.result.now 0 inside c.index.ensures) c.requires.way refl refl (sym c.if-is_call.ensures) c.in_ok-push.ensures.items

pub returns-in_ok-push-clause-passed : goal.returns-in_ok-push-clause-passed
returns-in_ok-push-clause-passed c =
    let done = c.args.self.now.done.items in
    let inside : c.args.rank < length done = omega (arith, rank_of_call (coded c.args.rows.now) c.args.rank (slice_index done c.args.rank) (call_with_way (coded c.args.rows.now) (counted done) (needs_of (coded c.args.rows.now) c.args.rank (slice_index done c.args.rank)) c.requires.way), c.requires.ready.sound.ranks) in
    get_or-set_same done c.args.rank (c.index.result.now + 1) 0 inside ∙ ap (λ k. k + 1) (index_is done c.args.rank c.index.result.now 0 inside c.index.ensures)

pub returns-else-is_call-clause-steps : goal.returns-else-is_call-clause-steps
returns-else-is_call-clause-steps c =
    let done = c.args.self.now.done.items in
    let inside : c.args.rank < length done = omega (arith, rank_of_call (coded c.args.rows.now) c.args.rank (slice_index done c.args.rank) (call_with_way (coded c.args.rows.now) (counted done) (needs_of (coded c.args.rows.now) c.args.rank (slice_index done c.args.rank)) c.requires.way), c.requires.ready.sound.ranks) in
    pass_last (coded c.args.rows.now) (state_of c.args.self.now) c.args.rank c.index.result.now c.requires.ready (index_is done c.args.rank c.index.result.now 0 inside c.index.ensures) c.requires.way (sym c.if-is_call.ensures)

pub returns-else-is_call-clause-passed : goal.returns-else-is_call-clause-passed
returns-else-is_call-clause-passed c =
    let done = c.args.self.now.done.items in
    let inside : c.args.rank < length done = omega (arith, rank_of_call (coded c.args.rows.now) c.args.rank (slice_index done c.args.rank) (call_with_way (coded c.args.rows.now) (counted done) (needs_of (coded c.args.rows.now) c.args.rank (slice_index done c.args.rank)) c.requires.way), c.requires.ready.sound.ranks) in
    get_or-set_same done c.args.rank (c.index.result.now + 1) 0 inside ∙ ap (λ k. k + 1) (index_is done c.args.rank c.index.result.now 0 inside c.index.ensures)
