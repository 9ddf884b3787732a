use Rattle.std.proofs.Common.{ℤ, ℕ, Bor, Option, Some, None, ap, sym, ◌∙◌, w32, to_z, of_z}
use Rattle.std.specs.Int.{w128}
use Rattle.std.specs.Option.{option_map}
use Rattle.std.proofs.lemmas.Int.{to_z-of_z}
use Rattle.must_call.specs.declared.place.Place.{Place}
use Rattle.must_rules.specs.Answer.{Answer}
use Rattle.must_rules.specs.Operations.{operations_of}
use Rattle.must_rules.specs.Statuses.{contradiction}
use Rattle.must_hold.specs.declared.held.Pending.{Pending}
use Rattle.must_hold.specs.Told.{recorded_seen}
use Rattle.must_hold.proofs.Judging.{judged_none, judged_some, found_is}
use Rattle.must_hold.proofs.Judged.{small, answer_at}
use Rattle.must_hold.proofs.judge.judge.Goals as goal

pub returns-in_err-pending : goal.returns-in_err-pending
returns-in_err-pending c = λ r calls rank tag numbered holds.
    c.from_residual.ensures ∙ judged_none r calls c.args.table.now numbered holds (recorded_seen c.args.completed.now) (sym c.find.ensures ∙ ap (option_map (λ (p : Bor Pending). p.now)) c.in_err-pending.was)

pub returns-in_err-value : goal.returns-in_err-value
returns-in_err-value c = λ r calls rank tag numbered holds.
    c.from_residual-in_err-value.ensures
    ∙ judged_some r calls c.args.table.now numbered holds (recorded_seen c.args.completed.now) c.in_ok-pending.pending.now None
    (sym c.find.ensures ∙ ap (option_map (λ (p : Bor Pending). p.now)) c.in_ok-pending.was)
    (λ m is. sym c.in_err-value.was ∙ c.contradiction.ensures m is
    ∙ ap (λ (z : ℤ). contradiction z m c.in_ok-pending.pending.now.cancel c.args.completed.now.status) (to_z-of_z w32 c.args.tag_ub c.ranges.tag_ub ∙ sym tag))

pub returns : goal.returns
returns c = λ r calls rank tag numbered holds.
    let p = c.in_ok-pending.pending.now in
    let status = c.args.completed.now.status in
    let found = sym c.find.ensures ∙ ap (option_map (λ (b : Bor Pending). b.now)) c.in_ok-pending.was in
    let is = found_is r calls (operations_of r calls) c.args.table.now holds c.args.completed.now.request (Some p) found in
    let asked = is.shows.0.asked_is in
    let s = small _ p.asked is.open_at.op.message p.cancel status c.in_ok-value.value asked (sym (c.contradiction.ensures is.open_at.op.message asked) ∙ c.in_ok-value.was) in
    ap (answer_at c.args.rank p.call) (ap (λ (z : ℤ). to_z w128 (of_z w128 z)) (c.from.ensures ∙ s.0) ∙ s.1)
    ∙ ap (λ (k : ℕ). answer_at k p.call c.in_ok-value.value) (sym rank)
    ∙ judged_some r calls c.args.table.now numbered holds (recorded_seen c.args.completed.now) p (Some c.in_ok-value.value) found
    (λ m is. sym c.in_ok-value.was ∙ c.contradiction.ensures m is ∙ ap (λ (z : ℤ). contradiction z m p.cancel status) (to_z-of_z w32 c.args.tag_ub c.ranges.tag_ub ∙ sym tag))
