use Rattle.must_hold.proofs.Recording.{IsEach}
use Rattle.must_hold.proofs.completed.each.Given as goal

abbrev pub invariant-loop-i : goal.invariant-loop-i
invariant-loop-i l = IsEach l.requests l.statuses l.i l.told.items
