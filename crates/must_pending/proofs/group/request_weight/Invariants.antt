use Rattle.std.proofs.Common.{◌≡◌, ◌+◌, take}
use Rattle.must_pending.specs.Clashes.{without, weight_of}
use Rattle.must_pending.proofs.group.request_weight.Given as goal

abbrev pub invariant-loop-placed : goal.invariant-loop-placed
invariant-loop-placed l = l.done + weight_of (without l.request (take l.placed-index l.operations)) ≡ weight_of (take l.placed-index l.operations)
