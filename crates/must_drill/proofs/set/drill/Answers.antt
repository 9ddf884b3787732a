use Rattle.std.proofs.Common.{ℕ}
use Rattle.must_drill.specs.Streams.{stream_of}
use Rattle.must_drill.proofs.Ranges.{one_more}
use Rattle.must_drill.proofs.set.drill.Goals as goal

pub loop-rank-preserved : goal.loop-rank-preserved
loop-rank-preserved c =
    let a = c.args in
    one_more (λ v. v.items) (λ (rank : ℕ). stream_of a.ranks a.rounds a.number rank) c.loop-rank.streams.items c.push.new.self.items c.in_ok-stream.field-0 c.loop-rank.rank
    c.in_ok-push.ensures.items c.loop-rank.invariant c.in_ok-stream.ensures
