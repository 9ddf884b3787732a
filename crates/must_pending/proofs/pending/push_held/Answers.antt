use Rattle.std.proofs.Common.{arith, length, ◌-◌, ap, ◌∙◌, [], ◌∷◌, ◌++◌}
use Rattle.must_pending.specs.Groups.{joined}
use Rattle.must_pending.proofs.GroupLaws.{joined_last, joined_put}
use Rattle.must_pending.proofs.pending.push_held.Goals as goal

pub returns-then-has_room-clause-ok : goal.returns-then-has_room-clause-ok
returns-then-has_room-clause-ok c =
    let some = c.has_room.ensures c.if-has_room.true in
    joined_last c.args.groups.now.items (c.len-last.result - 1) c.index_mut.result.now c.push.new.self c.args.held (omega (arith, some, ap length c.as_slice.ensures.value, c.len-last.ensures)) c.index_mut.ensures.value c.in_ok-push.ensures.ok

pub returns-clause-ok : goal.returns-clause-ok
returns-clause-ok c = ap joined c.in_ok-push-2.ensures.items ∙ ap (λ g. joined (c.args.groups.now.items ++ g ∷ [])) c.in_ok-new.ensures ∙ joined_put c.args.groups.now.items c.args.held
