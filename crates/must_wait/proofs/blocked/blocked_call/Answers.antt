use Rattle.std.proofs.Common.{◌≡◌, ◌+◌, ◌-◌, ◌/◌, get_or, refl, subst, inl, inr, arith}
use Rattle.std.proofs.lemmas.Bool.{cases_order}
use Rattle.must_call.specs.declared.place.Place.{Place}
use Rattle.must_base.specs.Listing.{Has}
use Rattle.must_wait.proofs.BlockedRanks.{less_by, above_by, equal_by, ranks_rise}
use Rattle.must_wait.proofs.Listed.{each_item, same_place}
use Rattle.must_wait.proofs.Watched.{has_at}
use Rattle.must_wait.proofs.blocked.blocked_call.Goals as goal

pub loop-low-preserved-in-Less : goal.loop-low-preserved-in-Less
loop-low-preserved-in-Less c =
    let none : Place = record { rank = 0; call = 0 } in
    let middle = c.loop-low.low + (c.loop-low.high - c.loop-low.low) / 2 in
    let low = less_by (get_or c.args.blocked.now middle none).rank c.args.rank c.in-Less.ensures in
    record {
      low_in = omega (arith, c.loop-low-test.true);
      high_in = c.loop-low.invariant.high_in;
      before = λ k d h. omega (arith, low, ranks_rise c.args.blocked.now k middle d none c.requires (omega arith) (omega (arith, c.loop-low-test.true, c.loop-low.invariant.high_in)));
      after = c.loop-low.invariant.after;
    }

pub returns-in-Equal : goal.returns-in-Equal
returns-in-Equal c =
    let none : Place = record { rank = 0; call = 0 } in
    let middle = c.loop-low.low + (c.loop-low.high - c.loop-low.low) / 2 in
    let here = get_or c.args.blocked.now middle none in
    subst (Has c.args.blocked.now) (same_place here (record { rank = c.args.rank; call = here.call }) (equal_by here.rank c.args.rank c.in-Equal.ensures) refl)
    (has_at c.args.blocked.now middle none (omega (arith, c.loop-low-test.true, c.loop-low.invariant.high_in)))

pub loop-low-preserved : goal.loop-low-preserved
loop-low-preserved c =
    let none : Place = record { rank = 0; call = 0 } in
    let middle = c.loop-low.low + (c.loop-low.high - c.loop-low.low) / 2 in
    let high = above_by (get_or c.args.blocked.now middle none).rank c.args.rank c.in-Greater.ensures in
    record {
      low_in = omega (arith, c.loop-low-test.true);
      high_in = omega (arith, c.loop-low-test.true, c.loop-low.invariant.high_in);
      before = c.loop-low.invariant.before;
      after = λ k d h less. omega (arith, high, ranks_rise c.args.blocked.now middle k none d c.requires h less);
    }

pub returns : goal.returns
returns c = each_item (λ (p : Place). p.rank ≡ c.args.rank → ⊥) c.args.blocked.now (λ k d h e. elim (cases_order k c.loop-low.low) [
  | inl same ↦ absurd (omega (arith, c.loop-low-test.false, c.loop-low.invariant.after k d (omega (arith, c.loop-low-test.false)) h))
  | inr (inl below) ↦ absurd (omega (arith, c.loop-low.invariant.before k d below))
  | inr (inr above) ↦ absurd (omega (arith, c.loop-low-test.false, c.loop-low.invariant.after k d (omega (arith, c.loop-low-test.false)) h))
])
