use Rattle.std.proofs.Common.{take, nat_eq}
use Rattle.std.specs.List.{IsDistinct}
use Rattle.must_hold.proofs.tests.is_distinct.Given as goal

abbrev pub invariant-loop-place : goal.invariant-loop-place
invariant-loop-place l = IsDistinct nat_eq (take l.place l.ranks)
