use Rattle.std.proofs.Common.{◌≡◌, ◌≤◌, ℕ, List, [], ◌∷◌, ◌++◌, length}
use Rattle.must_call.specs.declared.call.Call.{Call}
use Rattle.must_rules.specs.Rank.{Rank}
use Rattle.must_rules.specs.Numbered.{AreNumbered}
use Rattle.must_messages.specs.Asking.{AreBegun}
use Rattle.must_rules.specs.Operations.{operations_at, operations_of}
use Rattle.must_hold.specs.Queue.{Holds}
use Rattle.must_hold.specs.Changes.{Begins}
use Rattle.must_hold.specs.Needing.{HaveNeeds, BeginsNeeds}
use Rattle.must_hold.proofs.take.begin.Given as goal

abbrev pub decreases-loop-one : goal.decreases-loop-one
decreases-loop-one l = length l.begun.items

abbrev pub invariant-loop-one : goal.invariant-loop-one
invariant-loop-one l = ((r : Rank) (calls : List Call) → r.rank ≡ l.rank → r.tag_ub ≡ l.tag_ub → length calls ≡ l.k → AreBegun l.k l.fn.begun.items (operations_at r calls l.call) → HaveNeeds r (calls ++ l.call ∷ []) (operations_of r calls) l.fn.needs.items → BeginsNeeds r (calls ++ l.call ∷ []) l.k l.needs.items l.begun.items)
    × ((r : Rank) (calls : List Call) → r.rank ≡ l.rank → r.tag_ub ≡ l.tag_ub → length calls ≡ l.k → AreNumbered 64 (calls ++ l.call ∷ []) → AreBegun l.k l.fn.begun.items (operations_at r calls l.call) → l.fn.table.given ≤ length (operations_of r calls) → Holds r (calls ++ l.call ∷ []) (operations_of r calls) l.fn.table → Begins r (calls ++ l.call ∷ []) l.k l.fn.table.given l.table l.begun.items)
