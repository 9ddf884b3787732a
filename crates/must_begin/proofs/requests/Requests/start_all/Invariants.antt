use Rattle.std.proofs.Common.{◌≡◌, ℕ, List, length, take}
use Rattle.std.specs.Ordering.{nat_cmp}
use Rattle.std.specs.BTreeSet.{contains}
use Rattle.must_call.specs.declared.call.Call.{Call}
use Rattle.must_rules.specs.Rank.{Rank}
use Rattle.must_rules.specs.Making.{is_in, started_of}
use Rattle.must_rules.specs.Starts.{start_of}
use Rattle.must_rules.specs.Known.{clear_behind}
use Rattle.must_messages.specs.Asking.{AreBegun}
use Rattle.must_rules.specs.Operations.{started_from}
use Rattle.must_begin.specs.Keeping.{Keeps}
use Rattle.must_begin.proofs.requests.Requests.start_all.Given as goal

abbrev pub invariant-loop-i : goal.invariant-loop-i
invariant-loop-i g l = record {
  begun_are : (r : Rank) (calls : List Call) (call : Call) → g.V.View.starts l.view ≡ start_of (clear_behind r) calls → l.clear ≡ clear_behind r calls call → started_of call.body ≡ l.requests → Keeps r calls l.self
      → AreBegun (length calls) l.begun.items (started_from r calls call 0 (take l.i l.requests));
  seen_are : (h : ℕ) → contains nat_cmp l.seen h ≡ is_in (take l.i l.requests) h;
}
