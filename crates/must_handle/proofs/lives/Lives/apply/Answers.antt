use Rattle.std.proofs.Common.{◌∙◌}
use Rattle.must_handle.proofs.Standing.{applied_made, applied_passed}
use Rattle.must_handle.proofs.lives.Lives.apply.Goals as goal

pub returns-in_ok-push-in-Some-clause-stands : goal.returns-in_ok-push-in-Some-clause-stands
returns-in_ok-push-in-Some-clause-stands c = λ is_clear calls is told stands.
    applied_made is_clear c.args.call.now c.args.k calls c.args.self.now c.self.inside.slots.items c.deref.result.now c.push.new.self.items c.in-Some.class c.in-Some._number c.fresh_slot-slot.result
    c.self.view_is c.deref.ensures.value c.in_ok-push-in-Some.ensures.items c.in-Some.ensures c.requires c.fresh_slot-slot.ensures is stands

pub returns-in-None-clause-stands : goal.returns-in-None-clause-stands
returns-in-None-clause-stands c = λ is_clear calls is told stands.
    applied_passed is_clear c.args.clear c.args.call.now c.args.k c.self.inside.slots.len calls c.args.self.now c.self.inside.slots.items c.deref_mut.result.now c.pass.new.slots _
    c.self.view_is c.deref_mut.ensures.value (c.pass.auto.slots ∙ c.deref_mut.ensures.len) c.in-None.ensures c.pass.ensures is told stands
