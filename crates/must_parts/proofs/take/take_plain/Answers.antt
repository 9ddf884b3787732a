use mathlib.Core.Path.{fun_ext}
use Rattle.std.proofs.Common.{◌≡◌, ℕ, ◌+◌, ◌++◌, Bool, List, Option, Some, None, ap, sym, subst, ◌∙◌}
use Rattle.std.specs.Prelude.{nat_lt, if◌then◌else◌}
use Rattle.must_call.specs.Handles.{ClassedHandle}
use Rattle.must_format.specs.declared.cause.Limit.TheVariants.{PendingWeight}
use Rattle.must_type.specs.Table.{Types}
use Rattle.must_find.specs.declared.rule.Rule.TheVariants.{T3}
use Rattle.must_find.specs.Adds.{Adds}
use Rattle.must_rules.specs.Answer.{Answer}
use Rattle.must_rules.specs.Parts.{numbered}
use Rattle.must_rules.specs.PendingOperations.{Operation, parts_behind, pending, begun_with, request_in, left_by, most_pending, clash_of, pending_clash}
use Rattle.must_parts.specs.declared.told.Told.{Told}
use Rattle.must_parts.specs.declared.placed.Placed.{Placed}
use Rattle.must_parts.specs.Telling.{AreTold}
use Rattle.must_parts.specs.Placing.{ArePlaced}
use Rattle.must_parts.specs.Holding.{AreHeld}
use Rattle.must_parts.specs.Rows.{IsOfRule, OverlapRows}
use Rattle.must_parts.proofs.Rows.{both_rules}
use Rattle.must_parts.proofs.Taking.{low_parts, starts_none, limit_plain, clash_plain, pending_plain}
use Rattle.must_parts.proofs.take.take_plain.Goals as goal

pub returns-then-branch-clause-over : goal.returns-then-branch-clause-over
returns-then-branch-clause-over g c = λ r calls size sees held.
    let ps = parts_behind r calls c.args.call.now in
    let told : AreTold c.table.result.now.slots c.as_slice.result.now ps =
    subst (λ (tb : Types). AreTold tb.slots c.as_slice.result.now ps) (sym c.table.ensures)
    (subst (λ (l : List Told). AreTold c.args.types.now.table.slots l ps) (sym c.as_slice.ensures.value) (c.in_ok-told.ensures r calls sees)) in
    let wide = c.in_ok-is_too_wide.ensures ∙ ap (λ n. nat_lt (most_pending c.args.size) (n + c.in_ok-weight.weight)) c.weight.ensures in
    let reached = limit_plain r calls c.args.call.now c.args.pending.now c.args.size c.in_ok-weight.weight c.in_ok-is_too_wide.field-0 size (starts_none c.args.call.now.body c.requires.plain) held (c.in_ok-weight.ensures ps told) wide in
    reached ∙ ap (λ (b : Bool). if b then Some PendingWeight else None) c.if-branch.true

pub returns-clause-within : goal.returns-clause-within
returns-clause-within g c = λ r calls size sees held.
    let ps = parts_behind r calls c.args.call.now in
    let told : AreTold c.table.result.now.slots c.as_slice.result.now ps =
    subst (λ (tb : Types). AreTold tb.slots c.as_slice.result.now ps) (sym c.table.ensures)
    (subst (λ (l : List Told). AreTold c.args.types.now.table.slots l ps) (sym c.as_slice.ensures.value) (c.in_ok-told.ensures r calls sees)) in
    let wide = c.in_ok-is_too_wide.ensures ∙ ap (λ n. nat_lt (most_pending c.args.size) (n + c.in_ok-weight.weight)) c.weight.ensures in
    let reached = limit_plain r calls c.args.call.now c.args.pending.now c.args.size c.in_ok-weight.weight c.in_ok-is_too_wide.field-0 size (starts_none c.args.call.now.body c.requires.plain) held (c.in_ok-weight.ensures ps told) wide in
    reached ∙ ap (λ (b : Bool). if b then Some PendingWeight else None) c.if-branch.false

pub returns-clause-rows : goal.returns-clause-rows
returns-clause-rows g c = λ r calls rank len sees held.
    let ps = parts_behind r calls c.args.call.now in
    let told_again : AreTold c.table-2.result.now.slots c.as_slice-2.result.now ps =
    subst (λ (tb : Types). AreTold tb.slots c.as_slice-2.result.now ps) (sym c.table-2.ensures)
    (subst (λ (l : List Told). AreTold c.args.types.now.table.slots l ps) (sym c.as_slice-2.ensures.value) (c.in_ok-told.ensures r calls sees)) in
    let placed = c.in_ok-placed.ensures ps told_again in
    let low = low_parts r calls c.args.call.now in
    let here = c.in_ok-add_overlaps.ensures ps low (subst (λ (l : List Placed). ArePlaced l ps) (sym c.as_slice-3.ensures.value) placed) in
    let beside = c.in_ok-add_clashes.ensures (pending r calls) ps low held (subst (λ (l : List Placed). ArePlaced l ps) (sym c.as_slice-4.ensures.value) placed) in
    let same : (λ (n : ℕ). clash_of c.args.at.rank (pending r calls) (numbered n ps)) ≡ pending_clash r calls c.args.call.now = fun_ext (λ (n : ℕ). clash_plain r calls c.args.call.now c.args.at.rank n rank c.requires.plain) in
    both_rules _ _ _ (OverlapRows c.args.at ps) (IsOfRule c.args.at T3 (pending_clash r calls c.args.call.now)) here
    (subst (λ (answers : ℕ → Option Answer). Adds c.add_overlaps.new.rows c.add_clashes.new.rows (IsOfRule c.args.at T3 answers)) same beside)

pub returns-clause-stands : goal.returns-clause-stands
returns-clause-stands g c = λ r calls len sees held.
    let ps = parts_behind r calls c.args.call.now in
    let told_again : AreTold c.table-2.result.now.slots c.as_slice-2.result.now ps =
    subst (λ (tb : Types). AreTold tb.slots c.as_slice-2.result.now ps) (sym c.table-2.ensures)
    (subst (λ (l : List Told). AreTold c.args.types.now.table.slots l ps) (sym c.as_slice-2.ensures.value) (c.in_ok-told.ensures r calls sees)) in
    let placed = c.in_ok-placed.ensures ps told_again in
    let left = c.finish_call.ensures (pending r calls) held in
    let begun = c.in_ok-begin_made.ensures (left_by c.args.call.now (pending r calls)) ps left placed in
    let made = subst (λ (h : Option ClassedHandle). AreHeld c.begin_made.new.pending (left_by c.args.call.now (pending r calls) ++ begun_with c.args.at.call (request_in h) ps)) c.made.ensures begun in
    subst (λ (l : List Operation). AreHeld c.begin_made.new.pending l) (pending_plain r calls c.args.call.now c.args.at.call len c.requires.plain) made
