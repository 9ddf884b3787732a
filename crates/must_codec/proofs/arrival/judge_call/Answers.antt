use Rattle.std.proofs.Common.{◌∙◌, sym, ap, Some}
use Rattle.must_format.specs.Stream.{is_due}
use Rattle.must_codec.proofs.Places.{not_due, no_members, comes_next}
use Rattle.must_codec.proofs.arrival.judge_call.Goals as goal

pub returns-then-not-is_due-clause-exact : goal.returns-then-not-is_due-clause-exact
returns-then-not-is_due-clause-exact c = λ given place.
    let v = c.args.view in
    let due = sym (c.is_due.ensures ∙ ap (is_due c.args.place.next_handle v.kind) c.made.ensures) ∙ c.if-not-is_due.true in
    rw c.malformed-then-not-is_due.ensures (ap Some (sym (not_due c.args.header.rank c.args.header.size c.args.place given v.kind v.returned v.payload.now place c.if-place.false c.if-place-header.false due)))

pub returns-then-not-members_stand-clause-exact : goal.returns-then-not-members_stand-clause-exact
returns-then-not-members_stand-clause-exact c = λ given place.
    let v = c.args.view in
    let due = sym (c.is_due.ensures ∙ ap (is_due c.args.place.next_handle v.kind) c.made.ensures) ∙ c.if-not-is_due.false in
    rw c.malformed-then-not-members_stand.ensures (ap Some (sym (no_members c.args.header.rank c.args.header.size c.args.place given v.kind v.returned v.payload.now place c.if-place.false c.if-place-header.false due
    (sym c.members_stand.ensures ∙ c.if-not-members_stand.true))))

pub returns-clause-exact : goal.returns-clause-exact
returns-clause-exact c = λ given place.
    let v = c.args.view in
    let due = sym (c.is_due.ensures ∙ ap (is_due c.args.place.next_handle v.kind) c.made.ensures) ∙ c.if-not-is_due.false in
    ap Some (sym (comes_next c.args.header.rank c.args.header.size c.args.place given v.kind v.returned v.payload.now place c.if-place.false c.if-place-header.false due
    (sym c.members_stand.ensures ∙ c.if-not-members_stand.false)))
