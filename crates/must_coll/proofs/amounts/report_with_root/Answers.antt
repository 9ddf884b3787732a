use Rattle.std.proofs.Common.{OnOk, cond, length, sym, subst, ◌∙◌}
use Rattle.std.specs.Prelude.{slice_get}
use Rattle.must_find.specs.Adds.{Adds}
use Rattle.must_coll.specs.Given.{GivenFrom}
use Rattle.must_coll.specs.Agreement.{first_counting}
use Rattle.must_coll.specs.Amounts.{against}
use Rattle.must_coll.proofs.amounts.report_with_root.Goals as goal

pub returns-then-is_reduction : goal.returns-then-is_reduction
returns-then-is_reduction c =
    let calls = c.args.calls.now in
    let e = c.args.exchange in
    subst (λ b. OnOk c.report_against_first.result (Adds c.args.out.now c.report_against_first.new.out
    (GivenFrom (λ i x. cond b (against e (length calls) 0 (first_counting calls) i x) (against e (length calls) c.args.root (slice_get calls c.args.root) i x)) 0 calls)))
    (sym (sym c.is_reduction.ensures ∙ c.if-is_reduction.true)) c.report_against_first.ensures

pub returns : goal.returns
returns c =
    let calls = c.args.calls.now in
    let e = c.args.exchange in
    subst (λ b. OnOk c.report_against_at.result (Adds c.args.out.now c.report_against_at.new.out
    (GivenFrom (λ i x. cond b (against e (length calls) 0 (first_counting calls) i x) (against e (length calls) c.args.root (slice_get calls c.args.root) i x)) 0 calls)))
    (sym (sym c.is_reduction.ensures ∙ c.if-is_reduction.false)) c.report_against_at.ensures
