use Rattle.std.proofs.Common.{◌+◌, Bool, List, Some, None, ap, sym, subst, ◌∙◌}
use Rattle.std.specs.Prelude.{nat_lt, if◌then◌else◌}
use Rattle.must_format.specs.declared.cause.Limit.TheVariants.{PendingWeight}
use Rattle.must_type.specs.Table.{Types}
use Rattle.must_find.specs.declared.rule.Rule.TheVariants.{T3}
use Rattle.must_rules.specs.PendingOperations.{Operation, parts_behind, pending, most_pending, pending_clash}
use Rattle.must_parts.specs.declared.told.Told.{Told}
use Rattle.must_parts.specs.declared.placed.Placed.{Placed}
use Rattle.must_parts.specs.Telling.{AreTold}
use Rattle.must_parts.specs.Placing.{ArePlaced}
use Rattle.must_parts.specs.Holding.{AreHeld}
use Rattle.must_parts.specs.Rows.{OverlapRows}
use Rattle.must_parts.proofs.Rows.{with_none}
use Rattle.must_parts.proofs.Taking.{low_parts, init_starts, limit_plain, clash_init, pending_init}
use Rattle.must_parts.proofs.take.take_init.Goals as goal

pub returns-then-branch-clause-over : goal.returns-then-branch-clause-over
returns-then-branch-clause-over g c = λ r calls size sees held.
    let ps = parts_behind r calls c.args.call.now in
    let told : AreTold c.table.result.now.slots c.as_slice.result.now ps =
    subst (λ (tb : Types). AreTold tb.slots c.as_slice.result.now ps) (sym c.table.ensures)
    (subst (λ (l : List Told). AreTold c.args.types.now.table.slots l ps) (sym c.as_slice.ensures.value) (c.in_ok-told.ensures r calls sees)) in
    let wide = c.in_ok-is_too_wide.ensures ∙ ap (λ n. nat_lt (most_pending c.args.size) (n + c.in_ok-weight.weight)) c.weight.ensures in
    let reached = limit_plain r calls c.args.call.now c.args.pending.now c.args.size c.in_ok-weight.weight c.in_ok-is_too_wide.field-0 size (init_starts c.args.call.now.body c.requires.init.1) held (c.in_ok-weight.ensures ps told) wide in
    reached ∙ ap (λ (b : Bool). if b then Some PendingWeight else None) c.if-branch.true

pub returns-clause-within : goal.returns-clause-within
returns-clause-within g c = λ r calls size sees held.
    let ps = parts_behind r calls c.args.call.now in
    let told : AreTold c.table.result.now.slots c.as_slice.result.now ps =
    subst (λ (tb : Types). AreTold tb.slots c.as_slice.result.now ps) (sym c.table.ensures)
    (subst (λ (l : List Told). AreTold c.args.types.now.table.slots l ps) (sym c.as_slice.ensures.value) (c.in_ok-told.ensures r calls sees)) in
    let wide = c.in_ok-is_too_wide.ensures ∙ ap (λ n. nat_lt (most_pending c.args.size) (n + c.in_ok-weight.weight)) c.weight.ensures in
    let reached = limit_plain r calls c.args.call.now c.args.pending.now c.args.size c.in_ok-weight.weight c.in_ok-is_too_wide.field-0 size (init_starts c.args.call.now.body c.requires.init.1) held (c.in_ok-weight.ensures ps told) wide in
    reached ∙ ap (λ (b : Bool). if b then Some PendingWeight else None) c.if-branch.false

pub returns-clause-parts : goal.returns-clause-parts
returns-clause-parts g c = λ r calls sees.
    let ps = parts_behind r calls c.args.call.now in
    let told_again : AreTold c.table-2.result.now.slots c.as_slice-2.result.now ps =
    subst (λ (tb : Types). AreTold tb.slots c.as_slice-2.result.now ps) (sym c.table-2.ensures)
    (subst (λ (l : List Told). AreTold c.args.types.now.table.slots l ps) (sym c.as_slice-2.ensures.value) (c.in_ok-told.ensures r calls sees)) in
    c.in_ok-placed.ensures ps told_again

pub returns-clause-rows : goal.returns-clause-rows
returns-clause-rows g c = λ r calls rank len sees.
    let ps = parts_behind r calls c.args.call.now in
    let told_again : AreTold c.table-2.result.now.slots c.as_slice-2.result.now ps =
    subst (λ (tb : Types). AreTold tb.slots c.as_slice-2.result.now ps) (sym c.table-2.ensures)
    (subst (λ (l : List Told). AreTold c.args.types.now.table.slots l ps) (sym c.as_slice-2.ensures.value) (c.in_ok-told.ensures r calls sees)) in
    let here = c.in_ok-add_overlaps.ensures ps (low_parts r calls c.args.call.now) (subst (λ (l : List Placed). ArePlaced l ps) (sym c.as_slice-3.ensures.value) (c.in_ok-placed.ensures ps told_again)) in
    with_none c.args.at T3 (pending_clash r calls c.args.call.now) (OverlapRows c.args.at ps) _ _ (λ n. clash_init r calls c.args.call.now n c.requires.init.0 c.requires.init.1) here

pub returns-clause-stands : goal.returns-clause-stands
returns-clause-stands g c = λ r calls held.
    subst (λ (l : List Operation). AreHeld c.finish_call.new.pending l) (pending_init r calls c.args.call.now c.requires.init.0 c.requires.init.1) (c.finish_call.ensures (pending r calls) held)
