use Rattle.std.proofs.Common.{◌<◌, ℕ, List, length, subst, ap, arith}
use Rattle.must_call.specs.declared.place.Place.{Place}
use Rattle.must_base.specs.Listing.{Lists}
use Rattle.must_find.specs.Order.{by_spot}
use Rattle.must_wait.specs.Counted.{IsNext}
use Rattle.must_wait.specs.Needs.{Rows}
use Rattle.must_wait.specs.Replay.{IsBlockedList}
use Rattle.must_wait.specs.Shared.{coded}
use Rattle.must_wait.proofs.CodedRows.{few_coded, calls_coded, coded_blocked, length_coded}
use Rattle.must_wait.proofs.Listed.{if_ok}
use Rattle.must_wait.proofs.blocked.replay.Goals as goal

pub passed_calls-requires-clause-ranks : goal.passed_calls-requires-clause-ranks
passed_calls-requires-clause-ranks c = few_coded c.shared-shared.result.now c.shared-shared.ensures.valid

pub passed_calls-requires-clause-calls : goal.passed_calls-requires-clause-calls
passed_calls-requires-clause-calls c = calls_coded c.shared-shared.result.now c.shared-shared.ensures.valid

pub returns : goal.returns
returns c =
    let t = c.shared-shared.result.now in
    if_ok c.next_calls.result
    (λ calls l. subst (λ (r : Rows). IsBlockedList r calls) c.shared-shared.ensures.needs (coded_blocked t c.in_ok-done.done.items calls c.shared-shared.ensures.valid c.in_ok-done.ensures.sound c.in_ok-done.ensures.closed
    (subst (λ (d : List ℕ). Lists by_spot (λ (place : Place). (place.rank < length t.needs) × IsNext (coded t) d place) calls) c.deref.ensures.value l)))
    c.next_calls.ensures

pub next_calls-requires : goal.next_calls-requires
next_calls-requires c = record { ranks = omega (arith, c.in_ok-done.ensures.sound.ranks, length_coded c.shared-shared.result.now, ap length c.deref.ensures.value) }
