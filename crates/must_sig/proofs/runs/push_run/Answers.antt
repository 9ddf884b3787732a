use Rattle.std.proofs.Common.{sym, subst, ◌∙◌, ap, arith, ◌+◌, ◌-◌}
use Rattle.must_sig.specs.Signatures.{laid}
use Rattle.must_sig.specs.Runs.{EndsWith, AreMerged}
use Rattle.must_sig.proofs.Laying.{laid_one, longer_at, last_room}
use Rattle.must_sig.proofs.Merged.{merged_push, merged_set, some_end}
use Rattle.must_sig.proofs.runs.push_run.Goals as goal

pub returns-clause-laid : goal.returns-clause-laid
returns-clause-laid c = ap laid c.in_ok-push.ensures.items ∙ laid_one c.args.runs.now.items c.args.run

pub overflow_sub-last : goal.overflow_sub-last
overflow_sub-last c =
    let e = subst (λ l. EndsWith l c.args.run.basic) c.as_slice.ensures.value (c.ends_with.ensures.0 c.if-ends_with.true) in
    omega (arith, c.len-last.ensures, some_end c.args.runs.now.items c.args.run.basic e, c.args.runs.now.ok)

pub overflow_add-index : goal.overflow_add-index
overflow_add-index c =
    let e = subst (λ l. EndsWith l c.args.run.basic) c.as_slice.ensures.value (c.ends_with.ensures.0 c.if-ends_with.true) in
    let some = some_end c.args.runs.now.items c.args.run.basic e in
    record { fits = last_room c.args.runs.now.items (c.len-last.result - 1) c.args.run.length _ c.index.result.now c.index.ensures (omega (arith, c.len-last.ensures, some, c.args.runs.now.ok)) c.requires.short }

pub returns-then-ends_with-clause-laid : goal.returns-then-ends_with-clause-laid
returns-then-ends_with-clause-laid c =
    let e = subst (λ l. EndsWith l c.args.run.basic) c.as_slice.ensures.value (c.ends_with.ensures.0 c.if-ends_with.true) in
    let some = some_end c.args.runs.now.items c.args.run.basic e in
    longer_at c.args.runs.now.items (c.len-last.result - 1) c.args.run.length c.args.run.basic _ c.index.result.now c.index.ensures (omega (arith, c.len-last.ensures, some, c.args.runs.now.ok)) e

pub returns-then-ends_with-clause-merged : goal.returns-then-ends_with-clause-merged
returns-then-ends_with-clause-merged c =
    let e = subst (λ l. EndsWith l c.args.run.basic) c.as_slice.ensures.value (c.ends_with.ensures.0 c.if-ends_with.true) in
    let some = some_end c.args.runs.now.items c.args.run.basic e in
    merged_set c.args.runs.now.items (c.len-last.result - 1) (record { basic = c.args.run.basic; length = c.index.result.now.length + c.args.run.length }) c.requires.merged (omega (arith, c.len-last.ensures, some, c.args.runs.now.ok)) e

pub returns-clause-merged : goal.returns-clause-merged
returns-clause-merged c =
    subst AreMerged (sym c.in_ok-push.ensures.items) (merged_push c.args.runs.now.items c.args.run c.requires.merged (λ e. let yes = c.ends_with.ensures.1 (subst (λ l. EndsWith l c.args.run.basic) (sym c.as_slice.ensures.value) e) in let no = c.if-ends_with.false in cc (yes, no)))
