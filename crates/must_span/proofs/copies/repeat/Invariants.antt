use Rattle.must_span.proofs.CopyLaws.{Repeating}
use Rattle.must_span.proofs.copies.repeat.Given as goal

abbrev pub invariant-loop-copy : goal.invariant-loop-copy
invariant-loop-copy l = Repeating l.fn.out.items l.ranges l.at l.stride l.copy l.out.items
