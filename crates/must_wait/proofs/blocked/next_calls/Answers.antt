use Rattle.std.proofs.Common.{◌+◌, ◌<◌, ◌∙◌, length, List, sym, ap, arith, refl, subst}
use Rattle.must_call.specs.declared.place.Place.{Place}
use Rattle.must_base.specs.Listing.{Lists}
use Rattle.must_find.specs.Order.{by_spot}
use Rattle.must_wait.specs.Counted.{IsNext}
use Rattle.must_wait.specs.Shared.{coded}
use Rattle.must_wait.proofs.Listed.{NextBelow, no_next, next_push, next_skip, listed_as}
use Rattle.must_wait.proofs.blocked.next_calls.Goals as goal
use Rattle.must_wait.proofs.blocked.next_calls.Goals.{then-is_call+in_ok-push, else-is_call}

pub loop-rank-init : goal.loop-rank-init
loop-rank-init c = subst (λ (l : List Place). Lists by_spot (NextBelow (coded c.args.rows.now) c.args.done.now 0) l) (sym c.new-items.ensures.items) (no_next (coded c.args.rows.now) c.args.done.now)

pub loop-rank-preserved : goal.loop-rank-preserved
loop-rank-preserved c = elim c.if-is_call.branch [
  | then-is_call+in_ok-push w ↦
      next_push (coded c.args.rows.now) c.args.done.now c.loop-rank.rank c.loop-rank.items.items c.if-is_call.items.items _ refl refl (sym w.if-is_call.ensures) (ap (λ v. v.items) w.items-is ∙ w.in_ok-push.ensures.items) c.loop-rank.invariant
  | else-is_call w ↦
      subst (λ (l : List Place). Lists by_spot (NextBelow (coded c.args.rows.now) c.args.done.now (c.loop-rank.rank + 1)) l) (sym (ap (λ v. v.items) w.items-is))
      (next_skip (coded c.args.rows.now) c.args.done.now c.loop-rank.rank c.loop-rank.items.items (sym w.if-is_call.ensures) c.loop-rank.invariant)
]

pub returns : goal.returns
returns c = listed_as by_spot (NextBelow (coded c.args.rows.now) c.args.done.now c.loop-rank.rank) (λ (place : Place). (place.rank < length c.args.rows.now.needs) × IsNext (coded c.args.rows.now) c.args.done.now place) c.loop-rank.items.items
    (λ x h. (omega (arith, h.0, c.ranks-rank-end.ensures), h.1)) (λ x h. (omega (arith, h.0, c.ranks-rank-end.ensures), h.1)) c.loop-rank.invariant
