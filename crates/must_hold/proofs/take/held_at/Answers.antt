use Rattle.std.proofs.Common.{ℤ, ap, sym, subst, ◌∙◌, w32}
use Rattle.must_hold.specs.Queue.{EndsHere}
use Rattle.std.proofs.lemmas.Int.{to_z-of_z}
use Rattle.must_hold.proofs.Beginning.{shows_open, not_done_here, held_done, need_done, need_open}
use Rattle.must_hold.proofs.take.held_at.Goals as goal

pub returns-then-not-is_done-clause-shows : goal.returns-then-not-is_done-clause-shows
returns-then-not-is_done-clause-shows c = λ r calls op rank tag here is.
    shows_open r calls c.args.call.now op c.args.k c.args.begun is here (not_done_here c.args.begun.request c.args.call.now.returned (sym c.is_done.ensures ∙ c.if-not-is_done.true))

pub returns-then-not-is_done-clause-tells : goal.returns-then-not-is_done-clause-tells
returns-then-not-is_done-clause-tells c = λ r calls op rank tag here is.
    need_open r calls c.args.call.now op c.args.rank c.args.k c.args.begun c.not_done.result c.need_ended-need.result rank is here (sym c.is_done.ensures ∙ c.if-not-is_done.true) c.not_done.ensures (c.need_ended-need.ensures c.args.rank)

pub returns-clause-shows : goal.returns-clause-shows
returns-clause-shows c = λ r calls op rank tag here is.
    held_done r calls c.args.call.now op c.args.rank c.args.k c.args.begun c.item_ended.result c.own_end-end.result rank is here (sym c.is_done.ensures ∙ c.if-not-is_done.false)
    (subst (λ (z : ℤ). EndsHere z c.args.k op.message c.args.call.now c.own_end-end.result) (to_z-of_z w32 c.args.tag_ub c.ranges.tag_ub ∙ sym tag) (c.own_end-end.ensures op.message is.asked_is))
    c.item_ended.ensures

pub returns-clause-tells : goal.returns-clause-tells
returns-clause-tells c = λ r calls op rank tag here is.
    need_done r calls c.args.call.now op c.args.rank c.args.k c.args.begun c.own_end-end.result c.need_ended-need-2.result rank is here (sym c.is_done.ensures ∙ c.if-not-is_done.false)
    (subst (λ (z : ℤ). EndsHere z c.args.k op.message c.args.call.now c.own_end-end.result) (to_z-of_z w32 c.args.tag_ub c.ranges.tag_ub ∙ sym tag) (c.own_end-end.ensures op.message is.asked_is))
    (c.need_ended-need-2.ensures c.args.rank)
