use Rattle.std.proofs.Common.{◌≡◌, drop}
use Rattle.must_coll.specs.Agreement.{first_counting}
use Rattle.must_coll.proofs.agreement.first_counting.Given as goal

abbrev pub invariant-loop-call : goal.invariant-loop-call
invariant-loop-call l = first_counting (drop l.call-index l.calls) ≡ first_counting l.calls
