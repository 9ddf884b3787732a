use Rattle.std.proofs.Common.{◌≡◌, ℕ, List, [], OnOk, map, nat_eq, Option, Some, None, sym, ap, subst, ◌∙◌}
use Rattle.std.specs.Prelude.{unwrap_or}
use Rattle.std.specs.List.{IsDistinct}
use Rattle.must_group.specs.Split.{split_groups, group_at}
use Rattle.std.specs.Option.{option_map}
use Rattle.must_find.specs.Adds.{Adds}
use Rattle.must_group.specs.declared.splits.SplitRow.{SplitRow}
use Rattle.must_coll.specs.declared.making.Making.TheVariants as making
use Rattle.must_coll.specs.Given.{GivenFrom}
use Rattle.must_coll.specs.Made.{members_row, split_rows, recorded_row}
use Rattle.must_coll.proofs.Recorded.{none_recorded, rows_distinct}
use Rattle.must_coll.proofs.NoCall.{adds_nothing, none_from}
use Rattle.must_coll.proofs.made.report_split.Goals as goal

pub split-requires : goal.split-requires
split-requires c =
    let told : split_rows c.args.members.now c.args.calls.now ≡ Some c.in-Some.rows.items = sym c.in_ok-split_rows.ensures.rows ∙ ap (option_map (λ v. v.items)) c.in-Some.is in
    subst (λ (l : List SplitRow). IsDistinct nat_eq (map (λ row. row.member) l)) (sym c.deref.ensures.value) (rows_distinct c.args.members.now c.args.calls.now c.in-Some.rows.items told c.requires)

pub returns-in-None : goal.returns-in-None
returns-in-None c =
    let ms = c.args.members.now in
    let calls = c.args.calls.now in
    let told : split_rows ms calls ≡ None = sym c.in_ok-split_rows.ensures.rows ∙ ap (option_map (λ v. v.items)) c.in-None.is in
    adds_nothing c.args.out.now (GivenFrom (members_row making.Split ms (split_rows ms calls)) 0 calls)
    (none_from (members_row making.Split ms (split_rows ms calls)) (λ i x. ap (λ (o : Option (List SplitRow)). members_row making.Split ms o i x) told ∙ none_recorded x x.members) 0 calls)

pub returns-in_ok-groups-in-Some : goal.returns-in_ok-groups-in-Some
returns-in_ok-groups-in-Some c =
    let ms = c.args.members.now in
    let calls = c.args.calls.now in
    let told : split_rows ms calls ≡ Some c.in-Some.rows.items = sym c.in_ok-split_rows.ensures.rows ∙ ap (option_map (λ v. v.items)) c.in-Some.is in
    let groups = c.in_ok-groups-in-Some.ensures ∙ ap split_groups c.deref.ensures.value in
    let by_groups = subst (λ (g : List (Option (List ℕ))). OnOk c.report_groups.result (Adds c.args.out.now c.report_groups.new.out (GivenFrom (λ i x. recorded_row x x.members (Some (unwrap_or (group_at g i) []))) 0 calls))) groups c.report_groups.ensures in
    subst (λ (o : Option (List SplitRow)). OnOk c.report_groups.result (Adds c.args.out.now c.report_groups.new.out (GivenFrom (members_row making.Split ms o) 0 calls))) (sym told) by_groups
