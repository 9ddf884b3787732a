use Rattle.std.proofs.Common.{◌≡◌, ℕ, take, []}
use Rattle.std.specs.Ordering.{nat_cmp}
use Rattle.std.specs.BTreeSet.{contains}
use Rattle.must_rules.specs.Making.{is_in}
use Rattle.must_parts.specs.Starting.{starting}
use Rattle.must_parts.proofs.start.starting.Given as goal

abbrev pub invariant-loop-request : goal.invariant-loop-request
invariant-loop-request g l = record {
  started_are : l.started.items ≡ starting l.clear (g.V.View.starts l.view) [] (take l.request-index l.requests);
  seen_are : (h : ℕ) → contains nat_cmp l.seen h ≡ is_in (take l.request-index l.requests) h;
}
