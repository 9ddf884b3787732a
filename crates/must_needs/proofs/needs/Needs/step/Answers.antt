use Rattle.std.proofs.Common.{ℕ, Bool, ◌&&◌, ◌||◌, nat_eq, ap, sym, ◌∙◌}
use Rattle.std.specs.Ordering.{nat_cmp}
use Rattle.std.specs.BTreeSet.{contains}
use Rattle.must_messages.specs.CallNeeds.{is_started_collective}
use Rattle.must_needs.proofs.Stepping.{tells_more, started_more, clear_seen, numbered_front}
use Rattle.must_needs.proofs.needs.Needs.step.Goals as goal

pub returns : goal.returns
returns g c = λ r calls rank len numbered sees keeps begun tells.
    let call = c.args.call.now in
    let old = c.args.self.now in
    let waits = c.waits_for_wave.result in
    let starts = is_started_collective call.body && waits in
    let waits_is = c.waits_for_wave.ensures r calls sees in
    tells_more r calls call old _ c.in_ok-ways.ways tells c.in_ok-push.ensures.items
    (c.in_ok-ways.ensures r calls len (clear_seen r calls call c.args.clear _ sees.facts_are c.requires.clear) sees.starts_are (numbered_front 64 calls _ numbered) keeps tells.started begun waits_is)
    (started_more r calls call (λ k. contains nat_cmp old.started k) (λ k. contains nat_cmp c.put_started.new.started k) starts tells.started (ap (λ (b : Bool). is_started_collective call.body && b) waits_is)
    (λ k. c.in_ok-put_started.ensures k ∙ ap (λ (n : ℕ). contains nat_cmp old.started k || (starts && nat_eq k n)) (sym len)))
