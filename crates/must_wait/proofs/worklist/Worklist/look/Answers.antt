use Rattle.std.proofs.Common.{◌≡◌, ◌<◌, length, Some, true, false, sym, arith, ◌∙◌, slice_index, get_or, subst}
use Rattle.must_call.specs.declared.place.Place.{Place}
use Rattle.must_base.specs.Listing.{Has}
use Rattle.must_wait.specs.Counted.{counted}
use Rattle.must_wait.specs.Needs.{needs_of}
use Rattle.must_wait.specs.Replay.{reached}
use Rattle.must_wait.specs.Watching.{state_of, way_at}
use Rattle.must_wait.specs.CodedWay.{coded_places}
use Rattle.must_wait.specs.Shared.{coded}
use Rattle.must_wait.proofs.Watched.{open_way, wait_settles, mapped_is, rank_of_way, index_is, on_ok, on_both, has_at}
use Rattle.must_wait.proofs.worklist.Worklist.look.Goals as goal

pub pass-requires-clause-way : goal.pass-requires-clause-way
pass-requires-clause-way c =
    let done = c.args.self.now.done.items in
    let way = mapped_is coded_places c.way_of.result c.in-Some.way (way_at (coded c.args.rows.now) c.args.watch.rank c.args.watch.call c.args.watch.way) c.way_of.ensures c.in-Some.is in
    let inside : c.args.watch.rank < length done = omega (arith, rank_of_way (coded c.args.rows.now) c.args.watch.rank c.args.watch.call c.args.watch.way (coded_places c.in-Some.way) way, c.requires.ready.sound.ranks) in
    let call : c.args.watch.call ≡ slice_index done c.args.watch.rank = sym c.if-index-watch.false ∙ index_is done c.args.watch.rank c.index.result.now 0 inside c.index.ensures in
    open_way (coded c.args.rows.now) (counted done) (needs_of (coded c.args.rows.now) c.args.watch.rank (slice_index done c.args.watch.rank)) c.args.watch.way (coded_places c.in-Some.way)
    (subst (λ k. way_at (coded c.args.rows.now) c.args.watch.rank k c.args.watch.way ≡ Some (coded_places c.in-Some.way)) call way)
    (λ k d h. subst (λ l. reached (coded c.args.rows.now) (counted l) (get_or (coded_places c.in-Some.way) k d).rank (get_or (coded_places c.in-Some.way) k d).call ≡ true) c.deref.ensures.value (c.in-None-unreached.ensures k d h))

pub returns-in-Some-unreached-clause-settled : goal.returns-in-Some-unreached-clause-settled
returns-in-Some-unreached-clause-settled c =
    let at = c.in-Some-unreached.at in
    let way = mapped_is coded_places c.way_of.result c.in-Some.way (way_at (coded c.args.rows.now) c.args.watch.rank c.args.watch.call c.args.watch.way) c.way_of.ensures c.in-Some.is in
    let none : Place = record { rank = 0; call = 0 } in
    let place : Place = c.at.result in
    let among : Has (coded_places c.in-Some.way) place = subst (Has (coded_places c.in-Some.way)) (sym (c.at.ensures none)) (has_at (coded_places c.in-Some.way) at none c.in-Some-unreached.ensures.0) in
    let pends = subst (λ (p : Place). reached (coded c.args.rows.now) (counted c.deref.result.now) p.rank p.call ≡ false) (sym (c.at.ensures none)) (c.in-Some-unreached.ensures.1 none) in
    on_both c.wait.result
    (λ same waits. wait_settles (coded c.args.rows.now) (state_of c.wait.new.self) c.args.watch.rank c.args.watch.call c.args.watch.way (coded_places c.in-Some.way) place way among
    (subst (λ l. reached (coded c.args.rows.now) (counted l) place.rank place.call ≡ false) (c.deref.ensures.value ∙ sym same) pends) waits)
    c.wait.ensures.same c.wait.ensures.waits

pub returns-in-None-unreached-clause-settled : goal.returns-in-None-unreached-clause-settled
returns-in-None-unreached-clause-settled c =
    let done = c.args.self.now.done.items in
    let way = mapped_is coded_places c.way_of.result c.in-Some.way (way_at (coded c.args.rows.now) c.args.watch.rank c.args.watch.call c.args.watch.way) c.way_of.ensures c.in-Some.is in
    let inside : c.args.watch.rank < length done = omega (arith, rank_of_way (coded c.args.rows.now) c.args.watch.rank c.args.watch.call c.args.watch.way (coded_places c.in-Some.way) way, c.requires.ready.sound.ranks) in
    let call : c.args.watch.call ≡ slice_index done c.args.watch.rank = sym c.if-index-watch.false ∙ index_is done c.args.watch.rank c.index.result.now 0 inside c.index.ensures in
    on_ok c.pass.result (λ more e. absurd (omega arith)) c.pass.ensures.passed
