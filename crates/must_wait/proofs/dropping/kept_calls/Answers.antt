use Rattle.std.proofs.Common.{◌≡◌, ◌++◌, ◌-◌, ◌∙◌, take, [], ℕ, List, ap, subst}
use Rattle.must_wait.specs.Dropping.{core_state, IsCoreReady}
use Rattle.must_wait.specs.Shared.{coded}
use Rattle.must_wait.proofs.Dropped.{popped_core, all_ways_held}
use Rattle.must_wait.proofs.dropping.kept_calls.Goals as goal

pub look_at-requires-clause-ready : goal.look_at-requires-clause-ready
look_at-requires-clause-ready c =
    let l = c.loop-rank.list in
    (popped_core (coded c.args.rows.now) (record { kept = l.kept.items; watches = l.watches.items; dropped = c.pop.new.self.items }) c.in-Some.rank
    (subst (λ (d : List ℕ). IsCoreReady (coded c.args.rows.now) (record { kept = l.kept.items; watches = l.watches.items; dropped = d })) c.in-Some.ensures.items c.loop-rank.invariant.ready)).0

pub look_at-requires-clause-rank : goal.look_at-requires-clause-rank
look_at-requires-clause-rank c =
    let l = c.loop-rank.list in
    (popped_core (coded c.args.rows.now) (record { kept = l.kept.items; watches = l.watches.items; dropped = c.pop.new.self.items }) c.in-Some.rank
    (subst (λ (d : List ℕ). IsCoreReady (coded c.args.rows.now) (record { kept = l.kept.items; watches = l.watches.items; dropped = d })) c.in-Some.ensures.items c.loop-rank.invariant.ready)).1

pub returns-clause-held : goal.returns-clause-held
returns-clause-held c =
    let dropped = c.loop-rank.list.dropped in
    let rest : c.pop.new.self.items ≡ [] = c.in_default.ensures.rest ∙ ap (λ (n : ℕ). take (n - 1) dropped.items) c.in_default.ensures.cases.0 in
    all_ways_held (coded c.args.rows.now) (core_state c.loop-rank.list) c.loop-rank.invariant.held c.loop-rank.invariant.ways (c.in_default.ensures.items ∙ ap (λ (l : List ℕ). l ++ []) rest)
