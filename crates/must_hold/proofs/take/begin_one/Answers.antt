use Rattle.std.proofs.Common.{List, [], ◌∷◌, ◌++◌, sym, subst, ◌∙◌, w32}
use Rattle.must_hold.specs.declared.held.Need.{Need}
use Rattle.std.proofs.lemmas.Int.{to_z-of_z}
use Rattle.must_hold.specs.Needing.{HaveNeeds}
use Rattle.must_hold.proofs.Beginning.{begun_one}
use Rattle.must_hold.proofs.Needs.{needs_push}
use Rattle.must_hold.proofs.take.begin_one.Goals as goal

pub returns-clause-holds : goal.returns-clause-holds
returns-clause-holds c = λ r calls op ops rank tag here is apart few holds.
    begun_one r calls c.args.call.now op c.args.k c.args.begun is here ops _ c.held_at-held.result.0 c.args.table.now c.push.new.self apart few holds
    (c.held_at-held.ensures.shows r calls op rank (tag ∙ sym (to_z-of_z w32 c.args.tag_ub c.ranges.tag_ub)) here is) c.in_ok-push.ensures

pub returns-clause-needs : goal.returns-clause-needs
returns-clause-needs c = λ r calls op ops rank tag here is have.
    subst (λ (ns : List Need). HaveNeeds r (calls ++ c.args.call.now ∷ []) (ops ++ op ∷ []) ns) (sym c.in_ok-push-2.ensures.items)
    (needs_push r (calls ++ c.args.call.now ∷ []) ops op c.args.needs.now.items c.held_at-held.result.1 have (c.held_at-held.ensures.tells r calls op rank (tag ∙ sym (to_z-of_z w32 c.args.tag_ub c.ranges.tag_ub)) here is))
