use Rattle.std.proofs.Common.{◌≡◌, List, take}
use Rattle.must_call.specs.declared.call.Call.{Call}
use Rattle.must_rules.specs.Rank.{Rank}
use Rattle.must_rules.specs.Numbered.{AreNumbered}
use Rattle.must_rules.specs.Starts.{start_of}
use Rattle.must_rules.specs.Known.{clear_behind}
use Rattle.must_rules.specs.Operations.{operations_of}
use Rattle.must_messages.specs.CallNeeds.{request_needs}
use Rattle.must_hold.specs.Keeping.{Keeps}
use Rattle.must_needs.specs.Naming.{AreStarted}
use Rattle.must_needs.specs.Stating.{AreNamed}
use Rattle.must_needs.proofs.waits.name_requests.Given as goal

abbrev pub invariant-loop-request : goal.invariant-loop-request
invariant-loop-request g l = (r : Rank) (calls : List Call) → g.V.View.starts l.view ≡ start_of (clear_behind r) calls → AreNumbered 64 calls → Keeps r calls l.messages → AreStarted r calls l.started
    → AreNamed r (operations_of r calls) (λ need. request_needs r need calls (take l.request-index l.requests)) l.names.items
