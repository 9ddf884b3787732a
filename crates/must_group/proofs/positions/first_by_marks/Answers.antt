use Rattle.std.proofs.Common.{◌∙◌, refl, sym, ap, rules, arith, ◌<◌, length, slice_index_or, pos, is_some, true, false, below_more}
use Rattle.std.proofs.lemmas.Int.{to_z-of_z}
use Rattle.std.proofs.lemmas.List.{get_or-replicate, length-set}
use mir.Val.{SFits}
use mir.Syntax.{w32}
use Rattle.must_group.proofs.Listed.{found_first, none_more, marked_more, bad_by_position, bad_by_member, good_by_both, named, first_bad_small}
use Rattle.must_group.proofs.positions.first_by_marks.Goals as goal

pub loop-place-init : goal.loop-place-init
loop-place-init c = record { none = refl; small = λ k h. absurd (omega arith); long = refl; marks = λ k within. get_or-replicate 1024 k false false within }

pub returns-in_default : goal.returns-in_default
returns-in_default c =
    let fits : SFits w32 (slice_index_or c.args.listed.now c.loop-place.place (pos 0)) = search rules in
    let read = rw (to_z-of_z w32 _ fits) at c.position_of.ensures in
    let bad = bad_by_position c.args.members c.args.listed.now c.loop-place.place (ap is_some (sym read ∙ c.in_default.is)) in
    let first = found_first _ c.loop-place.place (length c.args.listed.now) c.loop-place.invariant.none bad c.loop-place-test.true in
    record { first = sym first; small = first_bad_small c.args.members c.args.listed.now c.loop-place.place c.loop-place.invariant.small first }

pub returns-then-seen-position : goal.returns-then-seen-position
returns-then-seen-position c =
    let fits : SFits w32 (slice_index_or c.args.listed.now c.loop-place.place (pos 0)) = search rules in
    let read = rw (to_z-of_z w32 _ fits) at c.position_of.ensures in
    let at = named c.args.members _ c.in-Some.position (sym read ∙ c.in-Some.is) in
    let old : c.in-Some.position < length c.loop-place.seen = omega (arith, at.within, c.loop-place.invariant.long, c.requires) in
    let repeated = sym (c.loop-place.invariant.marks c.in-Some.position old) ∙ c.if-seen-position.true in
    let bad = bad_by_member c.args.members c.args.listed.now c.loop-place.place (rw at.is repeated) in
    let first = found_first _ c.loop-place.place (length c.args.listed.now) c.loop-place.invariant.none bad c.loop-place-test.true in
    record { first = sym first; small = first_bad_small c.args.members c.args.listed.now c.loop-place.place c.loop-place.invariant.small first }

pub loop-place-preserved : goal.loop-place-preserved
loop-place-preserved c =
    let fits : SFits w32 (slice_index_or c.args.listed.now c.loop-place.place (pos 0)) = search rules in
    let read = rw (to_z-of_z w32 _ fits) at c.position_of.ensures in
    let names = sym read ∙ c.in-Some.is in
    let at = named c.args.members _ c.in-Some.position names in
    let in_seen : c.in-Some.position < length c.loop-place.seen = omega (arith, at.within, c.loop-place.invariant.long, c.requires) in
    let new = sym (c.loop-place.invariant.marks c.in-Some.position in_seen) ∙ c.if-seen-position.false in
    let good = good_by_both c.args.members c.args.listed.now c.loop-place.place (ap is_some names) (rw at.is new) in
    let long = length-set c.loop-place.seen c.in-Some.position true in
    record {
      none = none_more _ c.loop-place.place c.loop-place.invariant.none good;
      small = below_more (λ k. SFits w32 (slice_index_or c.args.listed.now k (pos 0))) c.loop-place.place c.loop-place.invariant.small fits;
      long = long ∙ c.loop-place.invariant.long;
      marks = λ k within. marked_more c.loop-place.seen c.args.listed.now c.loop-place.place c.in-Some.position c.loop-place-test.true in_seen at.is c.loop-place.invariant.marks k (omega (arith, long, within));
    }
