use Rattle.std.proofs.Common.{◌≡◌, ◌++◌}
use Rattle.must_drill.specs.Numbers.{state_at}
use Rattle.must_drill.specs.Calls.{rounds_of}
use Rattle.must_drill.specs.Streams.{records_of}
use Rattle.must_drill.proofs.stream.put_rounds.Given as goal

-- the rounds before
abbrev pub invariant-loop-m : goal.invariant-loop-m
invariant-loop-m l = record {
  state : l.state ≡ state_at l.fn.number l.m;
  put : l.out.items ≡ l.fn.out.items ++ records_of (rounds_of l.fn.ranks l.fn.number l.fn.rank l.m);
}
