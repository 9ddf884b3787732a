use Rattle.std.proofs.Common.{◌≡◌, ◌<◌, ℕ, Some, length, refl, sym, arith}
use Rattle.std.proofs.lemmas.Bool.{true≢false}
use Rattle.must_wait.specs.declared.way.Way.{Way}
use Rattle.must_wait.specs.Ways.{number_of}
use Rattle.must_wait.proofs.Listed.{each_item, has_get}
use Rattle.must_wait.proofs.shared.SharedRows.has_lists.Goals as goal

pub returns-then-not-is_below : goal.returns-then-not-is_below
returns-then-not-is_below c = (
  λ e. absurd (true≢false (sym e)),
  λ all. c.if-not-is_below.ensures.1 (λ number is. omega (arith, c.lists-count.ensures, all c.way-item.result number (has_get c.args.ways.now c.loop-way.way-index c.way-item.result c.way-item.result c.loop-way-test.true c.way-item.is) is)),
)

pub returns : goal.returns
returns c = (
  λ e way number h is. each_item (λ (w : Way). (number : ℕ) → number_of w ≡ Some number → number < length c.args.self.now.lists) c.args.ways.now
      (λ k d less n f. omega (arith, c.lists-count.ensures, c.loop-way.invariant k d n (omega (arith, less, c.loop-way-test.false)) f)) way h number is,
  λ all. refl,
)
