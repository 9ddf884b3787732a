use Rattle.std.proofs.Common.{◌≡◌, ℕ, map}
use Rattle.must_drill.specs.Streams.{stream_of}
use Rattle.std.specs.List.{range_with_len}
use Rattle.must_drill.proofs.set.drill.Given as goal

-- the streams of the ranks below
abbrev pub invariant-loop-rank : goal.invariant-loop-rank
invariant-loop-rank l = map (λ v. v.items) l.streams.items ≡ map (λ (rank : ℕ). stream_of l.fn.ranks l.fn.rounds l.fn.number rank) (range_with_len 0 l.rank)
