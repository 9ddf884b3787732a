use Rattle.std.proofs.Common.{◌≡◌, ◌∙◌, sym, ap, rules, length, slice_index_or, pos, is_some, true, take, below_more}
use Rattle.std.proofs.lemmas.Int.{to_z-of_z}
use mir.Val.{SFits}
use mir.Syntax.{w32}
use Rattle.must_group.specs.Groups.{is_bad_at}
use Rattle.must_group.proofs.Listed.{found_first, none_more, bad_by_position, bad_by_member, good_by_both, contains_is, first_bad_small}
use Rattle.must_group.proofs.positions.first_by_scan.Goals as goal
use Rattle.must_group.proofs.positions.first_by_scan.Goals.{then-is_none-via-then-is_none, then-is_none-via-else-is_none+then-contains}

pub returns-then-is_none : goal.returns-then-is_none
returns-then-is_none c =
    let fits : SFits w32 (slice_index_or c.args.listed.now c.loop-place.place (pos 0)) = search rules in
    let read = rw (to_z-of_z w32 _ fits) at c.position_of.ensures in
    let bad : is_bad_at c.args.members c.args.listed.now c.loop-place.place ≡ true =
    elim c.then-is_none.branch [
      | then-is_none-via-then-is_none w ↦ bad_by_position c.args.members c.args.listed.now c.loop-place.place (ap is_some (sym read) ∙ w.if-is_none.ensures)
      | then-is_none-via-else-is_none+then-contains w ↦ bad_by_member c.args.members c.args.listed.now c.loop-place.place (sym (contains_is (take c.loop-place.place c.args.listed.now) _) ∙ sym w.contains.ensures.value ∙ w.if-contains.true)
    ] in
    let first = found_first _ c.loop-place.place (length c.args.listed.now) c.loop-place.invariant.none bad c.loop-place-test.true in
    record { first = sym first; small = first_bad_small c.args.members c.args.listed.now c.loop-place.place c.loop-place.invariant.small first }

pub loop-place-preserved : goal.loop-place-preserved
loop-place-preserved c =
    let fits : SFits w32 (slice_index_or c.args.listed.now c.loop-place.place (pos 0)) = search rules in
    let read = rw (to_z-of_z w32 _ fits) at c.position_of.ensures in
    let out = sym (contains_is (take c.loop-place.place c.args.listed.now) _) ∙ sym c.contains.ensures.value ∙ c.if-contains.false in
    record {
      none = none_more (is_bad_at c.args.members c.args.listed.now) c.loop-place.place c.loop-place.invariant.none (good_by_both c.args.members c.args.listed.now c.loop-place.place (ap is_some (sym read) ∙ c.if-is_none.ensures) out);
      small = below_more (λ k. SFits w32 (slice_index_or c.args.listed.now k (pos 0))) c.loop-place.place c.loop-place.invariant.small fits;
    }
