use Rattle.std.proofs.Common.{◌≡◌, drop}
use Rattle.std.specs.Prelude.{find}
use Rattle.must_coll.specs.Uniform.{is_unlike}
use Rattle.must_coll.proofs.uniform.first_other.Given as goal

abbrev pub invariant-loop-call : goal.invariant-loop-call
invariant-loop-call l = find (is_unlike l.first) (drop l.call-index l.calls) ≡ find (is_unlike l.first) l.calls
