use Rattle.std.proofs.Common.{take}
use Rattle.must_pending.specs.Clashes.{IsFirst}
use Rattle.must_pending.proofs.group.first_clash.Given as goal

abbrev pub invariant-loop-placed : goal.invariant-loop-placed
invariant-loop-placed l = IsFirst (take l.placed-index l.operations) l.spans l.access l.first
