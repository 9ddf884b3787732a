use Rattle.std.proofs.Common.{OnOk, cond, None, length, sym, ap, subst, ◌∙◌}
use Rattle.must_find.specs.Adds.{Adds}
use Rattle.must_coll.specs.declared.exchange.Exchange.{Exchange}
use Rattle.must_coll.specs.Given.{GivenFrom}
use Rattle.must_coll.specs.Agreement.{first_counting}
use Rattle.must_coll.specs.Amounts.{against, first_against, is_reduction, rootless_row}
use Rattle.must_coll.proofs.Same.{uniform_is}
use Rattle.must_coll.proofs.NoCall.{adds_nothing, none_from}
use Rattle.must_coll.proofs.amounts.report_rootless.Goals as goal

pub returns-then-is_free : goal.returns-then-is_free
returns-then-is_free c =
    let calls = c.args.calls.now in
    let e = c.args.exchange in
    let is = sym c.is_free.ensures ∙ c.if-is_free.true in
    adds_nothing c.args.out.now (GivenFrom (rootless_row e calls) 0 calls)
    (none_from (rootless_row e calls) (λ i x. ap (λ b. cond b None (cond (is_reduction e) (against e (length calls) 0 (first_counting calls) i x) (first_against e (length calls) i x 0 calls))) is) 0 calls)

pub returns-then-is_reduction : goal.returns-then-is_reduction
returns-then-is_reduction c =
    let calls = c.args.calls.now in
    let e = c.args.exchange in
    subst (λ b. OnOk c.report_against_first.result (Adds c.args.out.now c.report_against_first.new.out
    (GivenFrom (λ i x. cond b None (cond (is_reduction e) (against e (length calls) 0 (first_counting calls) i x) (first_against e (length calls) i x 0 calls))) 0 calls)))
    (sym (sym c.is_free.ensures ∙ c.if-is_free.false))
    (subst (λ b. OnOk c.report_against_first.result (Adds c.args.out.now c.report_against_first.new.out
    (GivenFrom (λ i x. cond b (against e (length calls) 0 (first_counting calls) i x) (first_against e (length calls) i x 0 calls)) 0 calls)))
    (sym (sym c.is_reduction.ensures ∙ c.if-is_reduction.true)) c.report_against_first.ensures)

pub returns-then-is_uniform : goal.returns-then-is_uniform
returns-then-is_uniform c =
    let calls = c.args.calls.now in
    let e = c.args.exchange in
    let uniform = uniform_is e (sym c.is_uniform.ensures ∙ c.if-is_uniform.true) in
    let adds = subst (λ (k : Exchange). OnOk c.report_uniform.result (Adds c.args.out.now c.report_uniform.new.out (GivenFrom (λ i x. first_against k (length calls) i x 0 calls) 0 calls))) (sym uniform) c.report_uniform.ensures in
    subst (λ b. OnOk c.report_uniform.result (Adds c.args.out.now c.report_uniform.new.out
    (GivenFrom (λ i x. cond b None (cond (is_reduction e) (against e (length calls) 0 (first_counting calls) i x) (first_against e (length calls) i x 0 calls))) 0 calls)))
    (sym (sym c.is_free.ensures ∙ c.if-is_free.false))
    (subst (λ b. OnOk c.report_uniform.result (Adds c.args.out.now c.report_uniform.new.out
    (GivenFrom (λ i x. cond b (against e (length calls) 0 (first_counting calls) i x) (first_against e (length calls) i x 0 calls)) 0 calls)))
    (sym (sym c.is_reduction.ensures ∙ c.if-is_reduction.false)) adds)

pub returns : goal.returns
returns c =
    let calls = c.args.calls.now in
    let e = c.args.exchange in
    subst (λ b. OnOk c.report_pairs.result (Adds c.args.out.now c.report_pairs.new.out
    (GivenFrom (λ i x. cond b None (cond (is_reduction e) (against e (length calls) 0 (first_counting calls) i x) (first_against e (length calls) i x 0 calls))) 0 calls)))
    (sym (sym c.is_free.ensures ∙ c.if-is_free.false))
    (subst (λ b. OnOk c.report_pairs.result (Adds c.args.out.now c.report_pairs.new.out
    (GivenFrom (λ i x. cond b (against e (length calls) 0 (first_counting calls) i x) (first_against e (length calls) i x 0 calls)) 0 calls)))
    (sym (sym c.is_reduction.ensures ∙ c.if-is_reduction.false)) c.report_pairs.ensures)
