use Rattle.std.proofs.Common.{◌≡◌, ℕ, ◌<◌, true, Some, length, get_or}
use Rattle.std.specs.Option.{is_some}
use Rattle.must_call.specs.declared.place.Place.{Place}
use Rattle.must_base.specs.Listing.{Has}
use Rattle.must_wait.specs.Keeping.{kept_call}
use Rattle.must_wait.proofs.dropping.calls_by_rank.Given as goal

abbrev pub invariant-loop-place : goal.invariant-loop-place
invariant-loop-place l = record {
  len : length l.calls.items ≡ l.fn.ranks;
  calls : (rank call : ℕ) → kept_call l.calls.items rank ≡ Some call → Has l.blocked (record { rank = rank; call = call });
  all : (k : ℕ) (d : Place) → k < l.place-index → is_some (kept_call l.calls.items (get_or l.blocked k d).rank) ≡ true;
}
