use Rattle.std.proofs.Common.{ℕ, ℤ, None, Option, List, ap, sym, ◌∙◌, w32, to_z, of_z}
use Rattle.std.specs.Option.{option_to_list}
use Rattle.std.proofs.lemmas.Int.{to_z-of_z}
use Rattle.must_rules.specs.Fates.{Completed}
use Rattle.must_rules.specs.Operations.{operations_of}
use Rattle.must_messages.specs.OperationLaws.{begun_below}
use Rattle.must_hold.specs.Changes.{is_either}
use Rattle.std.specs.Prelude.{map}
use Rattle.must_hold.specs.Told.{recorded_seen, told_by}
use Rattle.must_hold.proofs.Taking.{wrong_at, judges, begins, completes_all, frees_all, all_ended, rows_are}
use Rattle.must_hold.proofs.Needs.{while_none_yet, needs_ended}
use Rattle.must_hold.proofs.take.take_call.Goals as goal

pub returns-clause-takes : goal.returns-clause-takes
returns-clause-takes c = λ r calls rank tag here numbered are holds.
    let call = c.args.call.now in
    let ops = operations_of r calls in
    let tag_is = tag ∙ sym (to_z-of_z w32 c.args.tag_ub c.ranges.tag_ub) in
    let requests = c.deref-2.result.now in
    let requests_is = c.deref-2.ensures.value ∙ c.in_ok-requests.ensures in
    let completions_is = ap (map recorded_seen) c.deref.ensures.value ∙ c.in_ok-completions.ensures in
    let freed = option_to_list c.freed.result in
    let told = c.in_ok-told.ensures (wrong_at r calls) (judges r calls call numbered c.args.table.now c.args.at.rank (to_z w32 (of_z w32 c.args.tag_ub)) rank tag_is holds) in
    let w1 = c.in_ok-end_completed.ensures.ended r calls call ops (begins r calls call numbered c.args.table.now holds)
    (completes_all r calls call numbered c.args.at.rank c.args.at.call requests c.in_ok-told.told rank here requests_is (λ q. told.0 q ∙ ap (told_by (wrong_at r calls) q None) completions_is)) in
    let w2 = c.in_ok-end_freed.ensures.ended r calls call ops requests w1 (frees_all r calls call numbered c.args.at.rank requests freed rank requests_is c.freed.ensures) in
    let h3 = c.in_ok-cancel_named.ensures.ended r calls call ops (is_either requests freed) (begun_below r calls) (all_ended r calls call numbered requests freed requests_is c.freed.ensures) c.cancelled.ensures w2 in
    let b = c.in_ok-begin.ensures.holds r calls rank tag_is here numbered are h3.few h3 in
    record {
      holds = b.0;
      given = b.1 ∙ c.in_ok-cancel_named.ensures.given ∙ c.in_ok-end_freed.ensures.given ∙ c.in_ok-end_completed.ensures.given;
      rows = rows_are r calls call numbered c.args.at.rank c.args.at.call _ c.args.rows.now _ rank here completions_is told.1;
    }

pub returns-clause-needs : goal.returns-clause-needs
returns-clause-needs c = λ r calls rank tag here numbered are holds have.
    let call = c.args.call.now in
    let ops = operations_of r calls in
    let tag_is = tag ∙ sym (to_z-of_z w32 c.args.tag_ub c.ranges.tag_ub) in
    let requests = c.deref-2.result.now in
    let requests_is = c.deref-2.ensures.value ∙ c.in_ok-requests.ensures in
    let completions_is = ap (map recorded_seen) c.deref.ensures.value ∙ c.in_ok-completions.ensures in
    let freed = option_to_list c.freed.result in
    let told = c.in_ok-told.ensures (wrong_at r calls) (judges r calls call numbered c.args.table.now c.args.at.rank (to_z w32 (of_z w32 c.args.tag_ub)) rank tag_is holds) in
    let w0 = begins r calls call numbered c.args.table.now holds in
    let closes = completes_all r calls call numbered c.args.at.rank c.args.at.call requests c.in_ok-told.told rank here requests_is (λ q. told.0 q ∙ ap (told_by (wrong_at r calls) q None) completions_is) in
    let frees = frees_all r calls call numbered c.args.at.rank requests freed rank requests_is c.freed.ensures in
    let w1 = c.in_ok-end_completed.ensures.ended r calls call ops w0 closes in
    let n1 = c.in_ok-end_completed.ensures.needs r calls call ops w0 closes (while_none_yet r calls call ops c.args.needs.now.items have) in
    let n2 = c.in_ok-end_freed.ensures.needs r calls call ops requests w1 frees n1 in
    let n3 = needs_ended r calls call ops (is_either requests freed) c.end_freed.new.needs.items (begun_below r calls) (all_ended r calls call numbered requests freed requests_is c.freed.ensures) n2 in
    c.in_ok-begin.ensures.needs r calls rank tag_is here are n3
