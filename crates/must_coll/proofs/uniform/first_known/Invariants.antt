use Rattle.std.proofs.Common.{◌≡◌, drop}
use Rattle.std.specs.Prelude.{find}
use Rattle.must_coll.specs.Uniform.{is_known}
use Rattle.must_coll.proofs.uniform.first_known.Given as goal

abbrev pub invariant-loop-call : goal.invariant-loop-call
invariant-loop-call l = find is_known (drop l.call-index l.calls) ≡ find is_known l.calls
