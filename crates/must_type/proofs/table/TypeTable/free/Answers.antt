use Rattle.std.proofs.Common.{◌≡◌, ◌∙◌, subst, sym, ap, arith, List, Option, None, Some, slice_set}
use Rattle.must_type.specs.declared.facts.Facts.{Facts}
use Rattle.must_type.specs.Tree.{TypeTree, weight}
use Rattle.must_type.specs.View.{slots_of}
use Rattle.must_type.specs.Table.{Types, tree_at, live_weight, IsDerived}
use Rattle.must_type.proofs.Rows.{Shared, facts_weight}
use Rattle.must_type.proofs.SlotLaws.{slots_set, slots_length, live_set, live_below, derived_some, derived_weight, same_types}
use Rattle.must_type.proofs.table.TypeTable.free.Goals as goal

pub overflow_sub-self : goal.overflow_sub-self
overflow_sub-self c =
    let n = c.args.no.number in
    let S = c.self.inside.slots.items in
    let slots : slots_of S ≡ c.args.self.now.slots = ap (λ (t : Types). t.slots) c.self.view_is in
    let derived : IsDerived (tree_at (slots_of S) n) = subst (λ (l : List (Option TypeTree)). IsDerived (tree_at l n)) (sym slots) c.requires in
    let below = live_below S n (derived_some (tree_at (slots_of S) n) derived) in
    let found : tree_at (slots_of S) n ≡ Some c.tree_in.result.now.value = ap (λ (l : List (Option Shared)). tree_at (slots_of l) n) (sym c.as_slice.ensures.value) ∙ c.tree_in.ensures in
    let w : c.facts.result.weight ≡ weight c.tree_in.result.now.value = ap (λ (f : Facts). f.weight) c.facts.ensures.value ∙ facts_weight c.as_ref.result.now ∙ ap weight c.as_ref.ensures in
    let sw = derived_weight (tree_at (slots_of S) n) c.tree_in.result.now.value found derived in
    let set = live_set (slots_of S) n (omega (arith, below, slots_length S)) in
    omega (arith, w, sw, set, c.self.invariant.0)

pub index_mut-requires : goal.index_mut-requires
index_mut-requires c =
    let n = c.args.no.number in
    let S = c.self.inside.slots.items in
    let slots : slots_of S ≡ c.args.self.now.slots = ap (λ (t : Types). t.slots) c.self.view_is in
    let derived : IsDerived (tree_at (slots_of S) n) = subst (λ (l : List (Option TypeTree)). IsDerived (tree_at l n)) (sym slots) c.requires in
    let below = live_below S n (derived_some (tree_at (slots_of S) n) derived) in
    omega (arith, below, c.self.inside.slots.ok.0)

pub invariant_of-self : goal.invariant_of-self
invariant_of-self c =
    let n = c.args.no.number in
    let S = c.self.inside.slots.items in
    let slots : slots_of S ≡ c.args.self.now.slots = ap (λ (t : Types). t.slots) c.self.view_is in
    let derived : IsDerived (tree_at (slots_of S) n) = subst (λ (l : List (Option TypeTree)). IsDerived (tree_at l n)) (sym slots) c.requires in
    let below = live_below S n (derived_some (tree_at (slots_of S) n) derived) in
    let found : tree_at (slots_of S) n ≡ Some c.tree_in.result.now.value = ap (λ (l : List (Option Shared)). tree_at (slots_of l) n) (sym c.as_slice.ensures.value) ∙ c.tree_in.ensures in
    let w : c.facts.result.weight ≡ weight c.tree_in.result.now.value = ap (λ (f : Facts). f.weight) c.facts.ensures.value ∙ facts_weight c.as_ref.result.now ∙ ap weight c.as_ref.ensures in
    let sw = derived_weight (tree_at (slots_of S) n) c.tree_in.result.now.value found derived in
    let set = live_set (slots_of S) n (omega (arith, below, slots_length S)) in
    let left = ap live_weight (slots_set S n) in
    (omega (arith, w, sw, set, left, c.self.invariant.0), omega (arith, c.self.invariant.1))

pub returns : goal.returns
returns c =
    let n = c.args.no.number in
    let S = c.self.inside.slots.items in
    let slots : slots_of S ≡ c.args.self.now.slots = ap (λ (t : Types). t.slots) c.self.view_is in
    same_types c.self.inside.weight_limit c.args.self.now.weight_limit (slots_of (slice_set S n None)) (slice_set c.args.self.now.slots n None) (ap (λ (t : Types). t.weight_limit) c.self.view_is) (slots_set S n ∙ ap (λ (l : List (Option TypeTree)). slice_set l n None) slots)
