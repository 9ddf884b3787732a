use Rattle.std.proofs.Common.{◌≡◌, List, ◌-◌}
use Rattle.must_call.specs.declared.call.Call.{Call}
use Rattle.must_rules.specs.Rank.{Rank}
use Rattle.must_rules.specs.Operations.{Operation}
use Rattle.must_hold.specs.Queue.{Holds}
use Rattle.must_hold.specs.Changes.{GivingRest}
use Rattle.must_hold.proofs.table.Table.give_rest.Given as goal

abbrev pub invariant-loop-self : goal.invariant-loop-self
invariant-loop-self l = (r : Rank) (calls : List Call) (ops : List Operation) → r.rank ≡ l.rank → Holds r calls ops l.fn.self → GivingRest r calls ops l.fn.self l.self l.fn.entries.items l.entries.items

abbrev pub decreases-loop-self : goal.decreases-loop-self
decreases-loop-self l = l.self.count - l.self.given
