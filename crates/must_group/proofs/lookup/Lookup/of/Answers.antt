use Rattle.std.proofs.Common.{◌≡◌, sym, ap, ◌∙◌, nat_eq, rules}
use Rattle.std.specs.Set.{is_member}
use Rattle.std.proofs.lemmas.List.Sorted.{IsNonDecreasingBy-from_sort, list_any-IsPermutation}
use Rattle.must_group.proofs.lookup.Lookup.of.Goals as goal

pub invariant_of-result : goal.invariant_of-result
invariant_of-result c = IsNonDecreasingBy-from_sort (λ x. x) _ c.sort_unstable.ensures.sorted

pub returns : goal.returns
returns c = λ rank.
    let copied : c.in_ok-rising.rising.items ≡ c.args.ranks.now = search rules in
    sym (list_any-IsPermutation (nat_eq rank) _ _ c.sort_unstable.ensures.permutation) ∙ ap (λ xs. is_member nat_eq xs rank) copied
