use Rattle.std.proofs.Common.{◌≡◌, drop, Some}
use Rattle.must_coll.specs.Rows.{are_kind}
use Rattle.must_coll.proofs.judge.are_kind_of.Given as goal

abbrev pub invariant-loop-call : goal.invariant-loop-call
invariant-loop-call l = are_kind (Some l.first) (drop l.call-index l.calls) ≡ are_kind (Some l.first) l.calls
