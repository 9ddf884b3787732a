use Rattle.std.proofs.Common.{◌≡◌, ◌++◌, ◌∷◌, ◌-◌, ◌∙◌, take, [], ℕ, List, length, arith, subst, length-append, ap}
use Rattle.must_call.specs.declared.place.Place.{Place}
use Rattle.must_wait.specs.Watching.{state_of, IsReady}
use Rattle.must_wait.specs.Shared.{coded}
use Rattle.must_wait.proofs.Rounds.{sum_fits}
use Rattle.must_wait.proofs.Watched.{popped_ready, popped_call, all_closed}
use Rattle.must_wait.proofs.worklist.passed_calls.Goals as goal

pub look_at-requires-clause-ready : goal.look_at-requires-clause-ready
look_at-requires-clause-ready c =
    let l = c.loop-place.list in
    popped_ready (coded c.args.rows.now) (record { done = l.done.items; first = l.first.items; watches = l.watches.items; fresh = c.pop.new.self.items }) c.in-Some.place
    (subst (λ (f : List Place). IsReady (coded c.args.rows.now) (record { done = l.done.items; first = l.first.items; watches = l.watches.items; fresh = f })) c.in-Some.ensures.items c.loop-place.invariant.ready)

pub look_at-requires-clause-call : goal.look_at-requires-clause-call
look_at-requires-clause-call c =
    let l = c.loop-place.list in
    popped_call (coded c.args.rows.now) (record { done = l.done.items; first = l.first.items; watches = l.watches.items; fresh = c.pop.new.self.items }) c.in-Some.place
    (subst (λ (f : List Place). IsReady (coded c.args.rows.now) (record { done = l.done.items; first = l.first.items; watches = l.watches.items; fresh = f })) c.in-Some.ensures.items c.loop-place.invariant.ready)

pub loop-place-smaller : goal.loop-place-smaller
loop-place-smaller c =
    let was = c.loop-place.invariant.ready.sound in
    let is = c.in_ok-look_at.ensures.ready.sound in
    omega (arith, c.in_ok-look_at.ensures.fresh, ap length c.in-Some.ensures.items, length-append c.pop.new.self.items (c.in-Some.place ∷ []), sum_fits c.loop-place.list.done.items (coded c.args.rows.now) was.ranks was.calls, sum_fits c.look_at.new.self.done.items (coded c.args.rows.now) is.ranks is.calls)

pub returns-clause-closed : goal.returns-clause-closed
returns-clause-closed c =
    let fresh = c.loop-place.list.fresh in
    let rest : c.pop.new.self.items ≡ [] = c.in_default.ensures.rest ∙ ap (λ (n : ℕ). take (n - 1) fresh.items) c.in_default.ensures.cases.0 in
    all_closed (coded c.args.rows.now) (state_of c.loop-place.list) c.loop-place.invariant.watched (c.in_default.ensures.items ∙ ap (λ (l : List Place). l ++ []) rest)
