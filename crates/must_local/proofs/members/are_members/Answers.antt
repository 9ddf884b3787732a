use Rattle.std.proofs.Common.{◌<◌, false, length, get_or, nat_eq, refl, sym, subst, ◌∙◌, arith}
use Rattle.std.specs.List.{All, IsDistinct}
use Rattle.std.proofs.lemmas.List.{get_or-replicate, length-set, take_all}
use Rattle.std.proofs.lemmas.List.Elements.{All-nil, All-more}
use Rattle.must_local.proofs.Marking.{IsSmall, nil_distinct, marked_more, distinct_more}
use Rattle.must_local.proofs.members.are_members.Goals as goal

pub loop-member-init : goal.loop-member-init
loop-member-init c = record { long = refl; marked = λ k within. get_or-replicate 1024 k false false within; small = All-nil IsSmall; distinct = nil_distinct }

pub loop-member-preserved : goal.loop-member-preserved
loop-member-preserved c =
    let i = c.loop-member.member-index in
    let inv = c.loop-member.invariant in
    let xs = c.args.members.now in
    let m = get_or xs i 0 in
    let there : m < length c.loop-member.marks = omega (arith, inv.long, c.if-place-ge-MOST_RANKS.false) in
    let new = sym (inv.marked m there) ∙ c.if-marks-place.false in
    let long = length-set c.loop-member.marks m _ in
    record {
      long = long ∙ inv.long;
      marked = λ k within. marked_more c.loop-member.marks xs i m c.loop-member-test.true there refl inv.marked k (omega (arith, long, within));
      small = All-more IsSmall xs i 0 c.loop-member-test.true inv.small (omega (arith, c.if-place-ge-MOST_RANKS.false));
      distinct = distinct_more xs i m c.loop-member-test.true refl inv.distinct new;
    }

pub returns : goal.returns
returns c = λ e.
    let inv = c.loop-member.invariant in
    let all = take_all c.loop-member.member-index c.args.members.now c.loop-member-test.false in
    record { distinct = subst (IsDistinct nat_eq) all inv.distinct; small = subst (All IsSmall) all inv.small; few = omega (arith, c.if-members-gt-MOST_RANKS.false) }
