use Rattle.std.proofs.Common.{◌≡◌, ◌++◌, ◌-◌, ℕ, List}
use Rattle.must_call.specs.declared.field.Item.TheVariants as item
use Rattle.must_format.specs.Decoding.{items_at}
use Rattle.must_record.proofs.Marked.{Marked}
use Rattle.must_record.proofs.made.are_ranks.Given as goal

-- the members that were read are marked, and the others follow
abbrev pub invariant-loop : goal.invariant-loop
invariant-loop l = (xs : List ℕ) × Marked l.size l.marks xs × (xs ++ items_at item.Request (l.count - l.counter) l.fields.rest.now ≡ items_at item.Request l.count l.fn.members)
