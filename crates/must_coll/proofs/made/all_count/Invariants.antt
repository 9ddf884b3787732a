use Rattle.std.proofs.Common.{◌≡◌, drop}
use Rattle.must_coll.specs.Made.{all_count}
use Rattle.must_coll.proofs.made.all_count.Given as goal

abbrev pub invariant-loop-call : goal.invariant-loop-call
invariant-loop-call l = all_count (drop l.call-index l.calls) ≡ all_count l.calls
