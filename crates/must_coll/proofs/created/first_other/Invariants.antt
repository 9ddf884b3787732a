use Rattle.std.proofs.Common.{◌≡◌, drop}
use Rattle.must_coll.specs.Created.{first_other}
use Rattle.must_coll.proofs.created.first_other.Given as goal

abbrev pub invariant-loop-member : goal.invariant-loop-member
invariant-loop-member l = first_other l.members l.calls l.group (drop l.member-index l.group) ≡ first_other l.members l.calls l.group l.group
