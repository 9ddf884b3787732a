use Rattle.std.proofs.Common.{◌≡◌, drop}
use Rattle.must_coll.specs.Amounts.{all_share}
use Rattle.must_coll.proofs.amounts.all_share.Given as goal

abbrev pub invariant-loop-call : goal.invariant-loop-call
invariant-loop-call l = all_share l.members l.root (drop l.call-index l.calls) ≡ all_share l.members l.root l.calls
