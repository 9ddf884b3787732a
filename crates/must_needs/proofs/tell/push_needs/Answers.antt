use Rattle.std.proofs.Common.{List, [], ◌∷◌, ◌++◌, map, ap, ◌∙◌}
use Rattle.must_entry.specs.declared.want.Want.{Want}
use Rattle.must_entry.specs.declared.entry.Entry.TheVariants.{Need}
use Rattle.must_hold.specs.Ended.{need_seen, place_at}
use Rattle.must_needs.specs.Naming.{ways_named}
use Rattle.must_needs.proofs.Telling.{entries_more}
use Rattle.must_needs.proofs.tell.push_needs.Goals as goal

pub loop-i-preserved : goal.loop-i-preserved
loop-i-preserved c =
    let rank = c.args.rank in
    let told = ways_named rank (map (need_seen rank) c.args.needs.now) in
    let ways_are = c.in_ok-ways.ensures ∙ ap told c.index-calls-i.is in
    entries_more rank told c.args.calls.now c.loop-i.i c.in-Ok.call c.index-calls-i.result _ _ _ c.loop-i-test.true (c.in-Ok.ensures).1
    (c.in_ok-push.ensures.items ∙ ap (λ (ways : List (List Want)). c.loop-i.entries.items ++ Need (place_at rank c.in-Ok.call) ways ∷ []) ways_are) c.loop-i.invariant
