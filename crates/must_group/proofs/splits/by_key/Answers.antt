use Rattle.std.proofs.Common.{◌≡◌, rules}
use Rattle.std.proofs.lemmas.List.Sorted.{answers_always}
use Rattle.must_group.specs.declared.splits.SplitRow.{SplitRow}
use Rattle.must_group.proofs.splits.by_key.Goals as goal

pub returns-clause-sorted : goal.returns-clause-sorted
returns-clause-sorted c =
    let key = λ (row : SplitRow). row.key in
    c.in_ok-sort_by_key.ensures.sorted key (answers_always _ _ _ (λ f a r f' k. search rules))

pub returns-clause-stable : goal.returns-clause-stable
returns-clause-stable c =
    let key = λ (row : SplitRow). row.key in
    let copied : c.in_ok-ordered.ordered.items ≡ c.args.rows.now = search rules in
    rw (← copied) (c.in_ok-sort_by_key.ensures.stable key (answers_always _ _ _ (λ f a r f' k. search rules)))
