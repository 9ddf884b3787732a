use Rattle.std.proofs.Common.{pos, length, slice_index_or, ap, arith, rules, take, [], ◌∷◌, ◌++◌}
use Rattle.std.proofs.lemmas.Int.{to_z-of_z}
use Rattle.std.proofs.lemmas.List.{take_all, get_or_read}
use mir.Val.{SFits}
use mir.Syntax.{w32}
use Rattle.must_group.specs.Groups.{incl}
use Rattle.must_group.proofs.Listed.{cast_fits, good_at, incl_more, incl_distinct}
use Rattle.must_group.proofs.group.Group.incl.Goals as goal

pub overflow_cast-rank : goal.overflow_cast-rank
overflow_cast-rank c =
    let good = good_at _ c.args.ranks.now c.requires c.loop-rank.rank-index c.loop-rank-test.true in
    let fits : SFits w32 (slice_index_or c.args.ranks.now c.loop-rank.rank-index (pos 0)) = search rules in
    cast_fits _ fits good.named

pub index-requires : goal.index-requires
index-requires c =
    let good = good_at _ c.args.ranks.now c.requires c.loop-rank.rank-index c.loop-rank-test.true in
    let fits : SFits w32 (slice_index_or c.args.ranks.now c.loop-rank.rank-index (pos 0)) = search rules in
    rw (to_z-of_z w32 _ fits) (omega (arith, good.within, ap length c.self.view_is, c.self.inside.ranks.ok))

pub loop-rank-preserved : goal.loop-rank-preserved
loop-rank-preserved c =
    let fits : SFits w32 (slice_index_or c.args.ranks.now c.loop-rank.rank-index (pos 0)) = search rules in
    let more = incl_more c.self.inside.ranks.items c.args.ranks.now c.loop-rank.rank-index c.loop-rank-test.true in
    let good = good_at _ c.args.ranks.now c.requires c.loop-rank.rank-index c.loop-rank-test.true in
    let read = rw (to_z-of_z w32 _ fits) at c.index.ensures in
    let at = get_or_read c.self.inside.ranks.items _ c.index.result.now (omega (arith, good.within, ap length c.self.view_is)) read 0 in
    rw (c.in_ok-push.ensures.items, c.loop-rank.invariant, more) (ap (λ x. incl c.self.inside.ranks.items (take c.loop-rank.rank-index c.args.ranks.now) ++ x ∷ []) at)

pub listed-requires : goal.listed-requires
listed-requires c =
    let all = take_all c.loop-rank.rank-index c.args.ranks.now (omega arith) in
    let good = rw (← c.self.view_is) at c.requires in
    rw (c.loop-rank.invariant, all) (incl_distinct c.self.inside.ranks.items c.args.ranks.now c.self.invariant.0 good)
