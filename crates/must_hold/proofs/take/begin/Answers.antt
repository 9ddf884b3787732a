use Rattle.std.proofs.Common.{rules, ◌≡◌, List, [], ◌∷◌, ◌++◌, refl, sym, subst, ◌∙◌, w32}
use Rattle.std.proofs.lemmas.Int.{to_z-of_z}
use Rattle.must_messages.specs.declared.asked.Begun.{Begun}
use Rattle.must_hold.specs.Changes.{Begins}
use Rattle.must_hold.specs.Needing.{BeginsNeeds}
use Rattle.must_hold.proofs.Needs.{begin_needs_first, begin_needs_next, begin_needs_last}
use Rattle.must_hold.proofs.Beginning.{begin_first, begin_next, begin_last, last_popped}
use Rattle.must_hold.proofs.take.begin.Goals as goal

pub loop-one-init : goal.loop-one-init
loop-one-init c = (λ r calls rank tag here are have. begin_needs_first r calls c.args.call.now c.args.k c.args.begun.items c.reverse.new.self.items c.args.needs.now.items c.reverse.ensures.items are have, λ r calls rank tag here numbered are few holds. begin_first r calls c.args.call.now numbered c.args.k here c.args.table.now.given c.args.begun.items c.reverse.new.self.items c.args.table.now c.reverse.ensures.items are refl few holds)

pub loop-one-preserved : goal.loop-one-preserved
loop-one-preserved c = (
  λ r calls rank tag here are have.
      begin_needs_next r calls c.args.call.now c.args.k c.pop.new.self.items c.in-Some.one c.loop-one.needs.items c.begin_one.new.needs.items
      (subst (λ (xs : List Begun). BeginsNeeds r (calls ++ c.args.call.now ∷ []) c.args.k c.loop-one.needs.items xs) (last_popped c.loop-one.begun.items c.pop.new.self.items c.pop.result c.in-Some.one c.in-Some.is c.pop.ensures.items) (c.loop-one.invariant.0 r calls rank tag here are have))
      (λ op ops is held. c.in_ok-begin_one.ensures.needs r calls op ops rank tag here is held),
  λ r calls rank tag here numbered are few holds.
      begin_next r calls c.args.call.now numbered c.args.k here c.args.table.now.given c.pop.new.self.items c.in-Some.one c.loop-one.table c.begin_one.new.table
      (subst (λ (xs : List Begun). Begins r (calls ++ c.args.call.now ∷ []) c.args.k c.args.table.now.given c.loop-one.table xs) (last_popped c.loop-one.begun.items c.pop.new.self.items c.pop.result c.in-Some.one c.in-Some.is c.pop.ensures.items) (c.loop-one.invariant.1 r calls rank tag here numbered are few holds))
      (λ op ops is apart short held. c.in_ok-begin_one.ensures.holds r calls op ops rank tag here is apart short held),
)

pub returns-clause-holds : goal.returns-clause-holds
returns-clause-holds c =
    let nothing : c.loop-one.begun.items ≡ [] = search rules in
    λ r calls rank tag here numbered are few holds.
    begin_last r calls c.args.call.now numbered c.args.k here c.args.table.now.given c.loop-one.table
    (subst (λ (bs : List Begun). Begins r (calls ++ c.args.call.now ∷ []) c.args.k c.args.table.now.given c.loop-one.table bs) nothing (c.loop-one.invariant.1 r calls rank (tag ∙ sym (to_z-of_z w32 c.args.tag_ub c.ranges.tag_ub)) here numbered are few holds))

pub returns-clause-needs : goal.returns-clause-needs
returns-clause-needs c =
    let nothing : c.loop-one.begun.items ≡ [] = search rules in
    λ r calls rank tag here are have.
    begin_needs_last r calls c.args.call.now c.args.k c.loop-one.needs.items
    (subst (λ (bs : List Begun). BeginsNeeds r (calls ++ c.args.call.now ∷ []) c.args.k c.loop-one.needs.items bs) nothing (c.loop-one.invariant.0 r calls rank (tag ∙ sym (to_z-of_z w32 c.args.tag_ub c.ranges.tag_ub)) here are have))
