use Rattle.std.proofs.Common.{◌≡◌, ◌∙◌, subst, ap, arith, length, List, Option}
use Rattle.std.proofs.lemmas.Bool.Decides.{nat_tests}
use Rattle.must_type.specs.Tree.{TypeTree}
use Rattle.must_type.specs.View.{slots_of}
use Rattle.must_type.specs.Olds.{old_numbers}
use Rattle.must_type.specs.Table.{Types, AreLive}
use Rattle.must_type.proofs.SlotLaws.{slots_length}
use Rattle.must_type.proofs.table.TypeTable.can_make.Goals as goal

pub returns : goal.returns
returns c =
    let S = c.self.inside.slots.items in
    let numbers = old_numbers c.args.call.now in
    let slots : slots_of S ≡ c.args.self.now.slots = ap (λ (t : Types). t.slots) c.self.view_is in
    let live : AreLive c.args.self.now.slots numbers = subst (λ (l : List (Option TypeTree)). AreLive l numbers) (ap slots_of c.as_slice.ensures.value ∙ slots) (c.are_in.ensures.0 c.if-not-are_in.false) in
    let n : length c.args.self.now.slots ≡ c.len.result = omega (arith, ap (λ (t : Types). length t.slots) c.self.view_is, slots_length S, c.self.inside.slots.ok.0, c.len.ensures) in
    (λ yes. (live, c.is_allowed.ensures.0 c.if-not-is_allowed.false, grind (arith, nat_tests, n, yes)), λ h. grind (arith, nat_tests, n, h.2))
