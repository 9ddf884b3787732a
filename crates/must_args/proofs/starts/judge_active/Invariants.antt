use Rattle.std.proofs.Common.{take, false, []}
use Rattle.must_rules.specs.Breaches.{AddsBreaches}
use Rattle.must_rules.specs.ArgumentHandles.{active_from}
use Rattle.must_args.proofs.starts.judge_active.Given as goal

abbrev pub invariant-loop-i : goal.invariant-loop-i
invariant-loop-i g l = AddsBreaches l.at l.fn.rows l.rows (active_from (g.V.View.starts l.view) l.at.call false [] 0 (take l.i l.requests))
