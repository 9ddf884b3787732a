use Rattle.std.proofs.Common.{◌≡◌, ◌-◌}
use Rattle.std.specs.Prelude.{slice_get}
use Rattle.std.specs.Option.{is_some}
use Rattle.must_coll.specs.Amounts.{differ, first_number}
use Rattle.must_coll.proofs.amounts.entry.Given as goal

abbrev pub invariant-loop-i : goal.invariant-loop-i
invariant-loop-i l = first_number (λ j. is_some (differ (slice_get l.xs j) (slice_get l.ys j))) l.i (l.count - l.i) ≡ first_number (λ j. is_some (differ (slice_get l.xs j) (slice_get l.ys j))) 0 l.count
