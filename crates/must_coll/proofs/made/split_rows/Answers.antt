use Rattle.std.proofs.Common.{◌≡◌, ◌+◌, ◌++◌, ◌∷◌, [], suc, List, drop, Option, Some, None, ap, sym, ◌∙◌, add-one}
use Rattle.std.specs.Prelude.{slice_get}
use Rattle.std.specs.Option.{option_copied, option_map}
use Rattle.std.proofs.lemmas.List.{append-nil}
use Rattle.must_group.specs.declared.splits.SplitRow.{SplitRow}
use Rattle.must_coll.specs.declared.item.ColorKey.{ColorKey}
use Rattle.must_coll.specs.Made.{split_row, split_rows, row_before}
use Rattle.must_coll.proofs.Recorded.{rows_step, rows_end, none_before, row_joins}
use Rattle.must_coll.proofs.made.split_rows.Goals as goal

pub loop-i-preserved : goal.loop-i-preserved
loop-i-preserved c =
    let ms = c.args.members.now in
    let calls = c.args.calls.now in
    let i = c.loop-i.i in
    let rows = c.loop-i.rows.items in
    let m = c.in-Some.member in
    let s = c.in-Some-split.split in
    let rest = split_rows (drop (suc i) ms) (drop (suc i) calls) in
    let call : slice_get calls i ≡ Some c.in-Some-call_at.call.now = sym c.call_at.ensures ∙ ap option_copied c.in-Some-call_at.is in
    let step = rows_step ms calls i m c.in-Some-call_at.call.now (sym c.rank_at.ensures ∙ c.in-Some.is) call ∙ ap (λ (o : Option ColorKey). row_before m o rest) c.in-Some-split.is in
    let pushed = c.in_ok-push-in-Some-split.ensures.items ∙ ap (λ (w : SplitRow). rows ++ w ∷ []) c.split_row.ensures in
    ap (λ (l : List SplitRow). option_map (λ (others : List SplitRow). l ++ others) (split_rows (drop (i + 1) ms) (drop (i + 1) calls))) pushed
    ∙ ap (λ n. option_map (λ (others : List SplitRow). (rows ++ split_row m s ∷ []) ++ others) (split_rows (drop n ms) (drop n calls))) (add-one i)
    ∙ row_joins rows m s rest ∙ ap (option_map (λ (others : List SplitRow). rows ++ others)) (sym step) ∙ c.loop-i.invariant

pub returns-in-None-call_at : goal.returns-in-None-call_at
returns-in-None-call_at c =
    let rows = c.loop-i.rows.items in
    let none : slice_get c.args.calls.now c.loop-i.i ≡ None = sym c.call_at.ensures ∙ ap option_copied c.in-None-call_at.is in
    record { rows = ap Some (sym (append-nil rows)) ∙ ap (option_map (λ (others : List SplitRow). rows ++ others)) (sym (rows_end c.args.members.now c.args.calls.now c.loop-i.i none)) ∙ c.loop-i.invariant }

pub returns-in-None-split : goal.returns-in-None-split
returns-in-None-split c =
    let ms = c.args.members.now in
    let calls = c.args.calls.now in
    let i = c.loop-i.i in
    let rows = c.loop-i.rows.items in
    let m = c.in-Some.member in
    let rest = split_rows (drop (suc i) ms) (drop (suc i) calls) in
    let call : slice_get calls i ≡ Some c.in-Some-call_at.call.now = sym c.call_at.ensures ∙ ap option_copied c.in-Some-call_at.is in
    let step = rows_step ms calls i m c.in-Some-call_at.call.now (sym c.rank_at.ensures ∙ c.in-Some.is) call ∙ ap (λ (o : Option ColorKey). row_before m o rest) c.in-None-split.is ∙ none_before m rest in
    record { rows = ap (option_map (λ (others : List SplitRow). rows ++ others)) (sym step) ∙ c.loop-i.invariant }
