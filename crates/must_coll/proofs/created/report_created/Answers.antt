use Rattle.std.proofs.Common.{◌≡◌, ℕ, List, OnOk, true, false, cond, Option, Some, None, sym, ap, subst, ◌∙◌}
use Rattle.std.specs.Prelude.{slice_get}
use Rattle.std.specs.Option.{option_copied}
use Rattle.must_find.specs.Adds.{Adds}
use Rattle.must_coll.specs.declared.item.WaveItem.{WaveItem}
use Rattle.must_coll.specs.Given.{GivenBy}
use Rattle.must_coll.specs.Made.{making_of}
use Rattle.must_coll.specs.Created.{group_row, is_create, created_row, IsCreatedRow}
use Rattle.must_coll.proofs.NoCall.{adds_nothing, none_by}
use Rattle.must_coll.proofs.created.report_created.Goals as goal

pub returns-in-None : goal.returns-in-None
returns-in-None c =
    let calls = c.args.calls.now in
    let is : slice_get calls 0 ≡ None = sym c.first.ensures.value ∙ ap option_copied c.in-None.is in
    adds_nothing c.args.out.now (IsCreatedRow calls) (none_by (created_row (slice_get calls 0) calls) (λ x. ap (λ (o : Option WaveItem). created_row o calls x) is) calls)

pub returns-then-not-is_create : goal.returns-then-not-is_create
returns-then-not-is_create c =
    let calls = c.args.calls.now in
    let first = c.in-Some.first.now in
    let is : slice_get calls 0 ≡ Some first = sym c.first.ensures.value ∙ ap option_copied c.in-Some.is in
    let create : is_create (making_of first.kind) ≡ false = ap is_create (sym c.making_of.ensures) ∙ sym c.is_create.ensures ∙ c.if-not-is_create.true in
    adds_nothing c.args.out.now (IsCreatedRow calls)
    (none_by (created_row (slice_get calls 0) calls) (λ x. ap (λ (o : Option WaveItem). created_row o calls x) is ∙ ap (λ b. cond b (group_row first.name.members calls x) None) create) calls)

pub returns-else-not-is_create : goal.returns-else-not-is_create
returns-else-not-is_create c =
    let calls = c.args.calls.now in
    let first = c.in-Some.first.now in
    let is : slice_get calls 0 ≡ Some first = sym c.first.ensures.value ∙ ap option_copied c.in-Some.is in
    let create : is_create (making_of first.kind) ≡ true = ap is_create (sym c.making_of.ensures) ∙ sym c.is_create.ensures ∙ c.if-not-is_create.false in
    let r = c.report_others.result in
    let new = c.report_others.new.out in
    let with_members = subst (λ (ms : List ℕ). OnOk r (Adds c.args.out.now new (GivenBy (group_row ms calls) calls))) c.members.ensures c.report_others.ensures in
    let created = subst (λ b. OnOk r (Adds c.args.out.now new (GivenBy (λ x. cond b (group_row first.name.members calls x) None) calls))) (sym create) with_members in
    subst (λ (o : Option WaveItem). OnOk r (Adds c.args.out.now new (GivenBy (created_row o calls) calls))) (sym is) created
