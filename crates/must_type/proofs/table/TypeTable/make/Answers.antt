use Rattle.std.proofs.Common.{◌≡◌, ◌<◌, ◌^◌, ◌∙◌, ap, arith, length, List, Option, Some, ◌++◌, ◌∷◌, []}
use Rattle.must_type.specs.declared.tree.Origin.TheVariants.{Derived}
use Rattle.must_type.specs.Olds.{old_numbers}
use Rattle.must_type.specs.Tree.{TypeTree, Made, weight}
use Rattle.must_type.specs.View.{trees_of, slots_of}
use Rattle.must_type.specs.Table.{Types, live_weight, slot_weight, made_of, trees_at}
use Rattle.must_type.proofs.Rows.{Shared}
use Rattle.must_type.proofs.SlotLaws.{slots_length, live_more, same_types}
use Rattle.must_type.proofs.table.TypeTable.make.Goals as goal

pub overflow_cast-number : goal.overflow_cast-number
overflow_cast-number c =
    let slots : length (slots_of c.self.inside.slots.items) ≡ length c.args.self.now.slots = ap (λ (t : Types). length t.slots) c.self.view_is in
    let n : c.len-number.result < 2 ^ 32 = omega (arith, slots, slots_length c.self.inside.slots.items, c.self.inside.slots.ok.0, c.len-number.ensures, c.requires.few) in
    record { fits = n }

pub invariant_of-self-2 : goal.invariant_of-self-2
invariant_of-self-2 c =
    let made = c.in_ok-tree.ensures.made in
    let t = Made Derived c.args.call.now (trees_of c.in_ok-olds.olds.items) in
    let before = slots_of c.self.inside.slots.items in
    let w : slot_weight (Some c.in_ok-tree.tree) ≡ weight t = ap (λ (x : TypeTree). slot_weight (Some x)) made.0 in
    let after = ap live_weight c.in_ok-push_tree.ensures.ok ∙ live_more before (Some c.in_ok-tree.tree) in
    (omega (arith, c.self.invariant.0, made.1, w, after), omega (arith, c.self.invariant.1, made.1, made.2))

pub returns-clause-made : goal.returns-clause-made
returns-clause-made c =
    let made = c.in_ok-tree.ensures.made in
    let S = c.self.inside.slots.items in
    let old = c.args.self.now.slots in
    let call = c.args.call.now in
    let slots : slots_of S ≡ old = ap (λ (t : Types). t.slots) c.self.view_is in
    let n : c.len-number.result ≡ length old = omega (arith, ap (λ (t : Types). length t.slots) c.self.view_is, slots_length S, c.self.inside.slots.ok.0, c.len-number.ensures) in
    let olds : trees_of c.in_ok-olds.olds.items ≡ trees_at old (old_numbers call) =
    c.in_ok-olds.ensures.0 ∙ ap (λ (l : List (Option Shared)). trees_at (slots_of l) (old_numbers call)) c.as_slice.ensures.value ∙ ap (λ (l : List (Option TypeTree)). trees_at l (old_numbers call)) slots in
    let tree : c.in_ok-tree.tree ≡ made_of old call = made.0 ∙ ap (Made Derived call) olds in
    let after : slots_of c.push_tree.new.slots.items ≡ old ++ Some (made_of old call) ∷ [] =
    c.in_ok-push_tree.ensures.ok ∙ ap (λ (l : List (Option TypeTree)). l ++ Some c.in_ok-tree.tree ∷ []) slots ∙ ap (λ (t : TypeTree). old ++ Some t ∷ []) tree in
    (n, same_types c.self.inside.weight_limit c.args.self.now.weight_limit (slots_of c.push_tree.new.slots.items) (old ++ Some (made_of old call) ∷ []) (ap (λ (t : Types). t.weight_limit) c.self.view_is) after)
