use Rattle.std.proofs.Common.{◌≡◌, ℕ, List, false, take}
use Rattle.std.specs.Ordering.{nat_cmp}
use Rattle.std.specs.BTreeMap.{get}
use Rattle.must_call.specs.declared.call.Call.{Call}
use Rattle.must_rules.specs.Rank.{Rank}
use Rattle.must_rules.specs.Making.{is_in}
use Rattle.must_rules.specs.Operations.{Operation}
use Rattle.must_hold.specs.Queue.{HoldsWhile}
use Rattle.must_hold.specs.Needing.{HaveNeedsWhile}
use Rattle.must_hold.specs.Changes.{Closes}
use Rattle.must_hold.specs.Told.{end_told}
use Rattle.must_hold.proofs.take.end_completed.Given as goal

abbrev pub invariant-loop-request : goal.invariant-loop-request
invariant-loop-request l = (l.table.given ≡ l.fn.table.given) × ((r : Rank) (calls : List Call) (call : Call) (ops : List Operation) → HoldsWhile r calls call (λ q. false) ops l.fn.table → Closes r calls call ops l.rank l.requests (λ q. end_told l.k (get nat_cmp l.told q)) → HoldsWhile r calls call (is_in (take l.request-index l.requests)) ops l.table) × ((r : Rank) (calls : List Call) (call : Call) (ops : List Operation) → HoldsWhile r calls call (λ q. false) ops l.fn.table → Closes r calls call ops l.rank l.requests (λ q. end_told l.k (get nat_cmp l.told q)) → HaveNeedsWhile r calls call (λ q. false) ops l.fn.needs.items → HaveNeedsWhile r calls call (is_in (take l.request-index l.requests)) ops l.needs.items)
