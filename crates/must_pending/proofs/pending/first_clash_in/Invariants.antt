use Rattle.std.proofs.Common.{take}
use Rattle.must_pending.specs.Clashes.{IsFirst}
use Rattle.must_pending.specs.Groups.{joined}
use Rattle.must_pending.proofs.pending.first_clash_in.Given as goal

abbrev pub invariant-loop-group : goal.invariant-loop-group
invariant-loop-group l = IsFirst (joined (take l.group-index l.groups)) l.spans l.access l.first
