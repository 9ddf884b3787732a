use Rattle.std.proofs.Common.{◌↔◌, rules, subst}
use Rattle.std.proofs.lemmas.List.Sorted.{answers_always}
use Rattle.must_span.specs.declared.ranges.AddressRange.{AddressRange}
use Rattle.must_span.specs.Ranges.{Covers}
use Rattle.must_span.proofs.CopyLaws.{sorted_rise, covers_permutation}
use Rattle.must_span.proofs.copies.settled.Goals as goal

pub sweep-requires-clause-rise : goal.sweep-requires-clause-rise
sweep-requires-clause-rise c = rw c.as_slice.ensures.value (sorted_rise _ (c.in_ok-sort_by_key.ensures.sorted (λ (r : AddressRange). r.low) (answers_always _ _ _ (λ f a r f' k. search rules))))

pub returns-clause-covers : goal.returns-clause-covers
returns-clause-covers c = λ x.
    let swept : Covers c.in_ok-settled.settled.items x ↔ Covers c.sort_by_key.new.self.items x = subst (λ l. Covers c.in_ok-settled.settled.items x ↔ Covers l x) c.as_slice.ensures.value (c.in_ok-settled.ensures.covers x) in
    let moved = covers_permutation c.args.ranges.items c.sort_by_key.new.self.items c.in_ok-sort_by_key.ensures.permutation x in
    ((λ p. moved.0 (swept.0 p)), (λ p. swept.1 (moved.1 p)))
