use Rattle.std.proofs.Common.{◌≡◌, ℕ, List, Option, true, false, get_or, sym, subst}
use Rattle.must_call.specs.declared.place.Place.{Place}
use Rattle.must_base.specs.Listing.{Has}
use Rattle.must_wait.specs.Dropping.{core_state}
use Rattle.must_wait.specs.Keeping.{holds_yet}
use Rattle.must_wait.specs.Needs.{needs_of}
use Rattle.must_wait.specs.Watching.{way_at}
use Rattle.must_wait.specs.CodedWay.{coded_places}
use Rattle.must_wait.specs.Shared.{coded}
use Rattle.must_wait.proofs.Dropped.{free_way, watch_looks}
use Rattle.must_wait.proofs.Watched.{mapped_is, on_both, has_at}
use Rattle.must_wait.proofs.dropping.Dropping.look.Goals as goal

pub returns-in-Some-holder-clause-looked : goal.returns-in-Some-holder-clause-looked
returns-in-Some-holder-clause-looked c =
    let at = c.in-Some-holder.at in
    let way = mapped_is coded_places c.way_of.result c.in-Some.way (way_at (coded c.args.rows.now) c.args.watch.rank c.args.watch.call c.args.watch.way) c.way_of.ensures c.in-Some.is in
    let none : Place = record { rank = 0; call = 0 } in
    let place : Place = c.at.result in
    let among : Has (coded_places c.in-Some.way) place = subst (Has (coded_places c.in-Some.way)) (sym (c.at.ensures none)) (has_at (coded_places c.in-Some.way) at none c.in-Some-holder.ensures.0) in
    let holds : holds_yet c.args.self.now.kept.items place ≡ true =
    subst (λ (k : List (Option ℕ)). holds_yet k place ≡ true) c.deref-2.ensures.value (subst (λ (p : Place). holds_yet c.deref-2.result.now p ≡ true) (sym (c.at.ensures none)) (c.in-Some-holder.ensures.1 none)) in
    on_both c.wait.result
    (λ same waits. watch_looks (coded c.args.rows.now) (core_state c.wait.new.self) c.args.watch.rank c.args.watch.call c.args.watch.way (coded_places c.in-Some.way) place way among
    (subst (λ (k : List (Option ℕ)). holds_yet k place ≡ true) (sym same) holds) waits)
    c.wait.ensures.same c.wait.ensures.waits

pub drop_rank-requires-clause-free : goal.drop_rank-requires-clause-free
drop_rank-requires-clause-free c =
    let way = mapped_is coded_places c.way_of.result c.in-Some.way (way_at (coded c.args.rows.now) c.args.watch.rank c.args.watch.call c.args.watch.way) c.way_of.ensures c.in-Some.is in
    free_way (holds_yet c.args.self.now.kept.items) (needs_of (coded c.args.rows.now) c.args.watch.rank c.args.watch.call) c.args.watch.way (coded_places c.in-Some.way) way
    (λ k d h. subst (λ (l : List (Option ℕ)). holds_yet l (get_or (coded_places c.in-Some.way) k d) ≡ false) c.deref-2.ensures.value (c.in-None-holder.ensures k d h))

pub wait-requires-clause-holds : goal.wait-requires-clause-holds
wait-requires-clause-holds c =
    let none : Place = record { rank = 0; call = 0 } in
    subst (λ (k : List (Option ℕ)). holds_yet k c.at.result ≡ true) c.deref-2.ensures.value (subst (λ (p : Place). holds_yet c.deref-2.result.now p ≡ true) (sym (c.at.ensures none)) (c.in-Some-holder.ensures.1 none))
