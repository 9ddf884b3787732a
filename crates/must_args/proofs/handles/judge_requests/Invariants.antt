use Rattle.std.proofs.Common.{map, take, false}
use Rattle.must_call.specs.Handles.{request_of}
use Rattle.must_rules.specs.Breaches.{AddsBreaches}
use Rattle.must_rules.specs.ArgumentHandles.{wrong_handles}
use Rattle.must_args.proofs.handles.judge_requests.Given as goal

abbrev pub invariant-loop-i : goal.invariant-loop-i
invariant-loop-i g l = AddsBreaches l.at l.fn.rows l.rows (wrong_handles (g.V.View.facts l.view) l.kind false l.number (map request_of (take l.i l.requests)))
