use Rattle.std.proofs.Common.{ℕ, ◌-◌, ◌+◌, Bool, sym, ◌∙◌, arith}
use Rattle.std.specs.Prelude.{slice_get}
use Rattle.std.specs.Option.{is_some}
use Rattle.must_coll.specs.Amounts.{differ}
use Rattle.must_coll.proofs.Amounting.{number_here, number_on, number_none}
use Rattle.must_coll.proofs.amounts.entry.Goals as goal

pub returns-then-differs_at-clause-value : goal.returns-then-differs_at-clause-value
returns-then-differs_at-clause-value c =
    let p : ℕ → Bool = λ j. is_some (differ (slice_get c.args.xs.now j) (slice_get c.args.ys.now j)) in
    sym (number_here p c.loop-i.i (c.args.count - c.loop-i.i) (omega (c.loop-i-test.true, arith)) (sym c.differs_at.ensures ∙ c.if-differs_at.true)) ∙ c.loop-i.invariant

pub loop-i-preserved : goal.loop-i-preserved
loop-i-preserved c =
    let p : ℕ → Bool = λ j. is_some (differ (slice_get c.args.xs.now j) (slice_get c.args.ys.now j)) in
    let i = c.loop-i.i in
    let count = c.args.count in
    sym (number_on p i (count - i) (count - (i + 1)) (omega (c.loop-i-test.true, arith)) (sym c.differs_at.ensures ∙ c.if-differs_at.false)) ∙ c.loop-i.invariant

pub returns-clause-value : goal.returns-clause-value
returns-clause-value c =
    let p : ℕ → Bool = λ j. is_some (differ (slice_get c.args.xs.now j) (slice_get c.args.ys.now j)) in
    sym (number_none p c.loop-i.i (c.args.count - c.loop-i.i) (omega arith)) ∙ c.loop-i.invariant
