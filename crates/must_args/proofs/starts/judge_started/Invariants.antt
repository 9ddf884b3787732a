use Rattle.std.proofs.Common.{◌≡◌, ℕ, take, true, [], nat_eq}
use Rattle.std.specs.Ordering.{nat_cmp}
use Rattle.std.specs.Set.{is_member}
use Rattle.std.specs.BTreeSet.{contains}
use Rattle.must_rules.specs.Breaches.{AddsBreaches}
use Rattle.must_rules.specs.ArgumentHandles.{active_from}
use Rattle.must_args.proofs.starts.judge_started.Given as goal

abbrev pub invariant-loop-i : goal.invariant-loop-i
invariant-loop-i g l = record {
  adds : AddsBreaches l.at l.fn.rows l.rows (active_from (g.V.View.starts l.view) l.at.call true [] 0 (take l.i l.requests));
  seen : (h : ℕ) → contains nat_cmp l.seen h ≡ is_member nat_eq (take l.i l.requests) h;
}
