use Rattle.must_pending.proofs.GroupLaws.{Finishing}
use Rattle.must_pending.proofs.pending.finish_in.Given as goal

abbrev pub invariant-loop-i : goal.invariant-loop-i
invariant-loop-i l = Finishing l.fn.groups.items l.groups.items l.request l.i l.done
