use Rattle.std.proofs.Common.{◌≡◌, ℕ, List, OnOk, true, false, cond, Option, Some, None, sym, ap, subst, ◌∙◌}
use Rattle.std.specs.Prelude.{slice_get}
use Rattle.std.specs.Option.{option_copied}
use Rattle.must_find.specs.Adds.{Adds}
use Rattle.must_coll.specs.declared.item.WaveItem.{WaveItem}
use Rattle.must_coll.specs.declared.making.Making.{Making}
use Rattle.must_coll.specs.Given.{GivenFrom}
use Rattle.must_coll.specs.Made.{members_row, split_rows, all_count, making_of, made_row, IsMadeRow}
use Rattle.must_coll.proofs.NoCall.{adds_nothing, none_from}
use Rattle.must_coll.proofs.made.report_made.Goals as goal

pub returns-in-None : goal.returns-in-None
returns-in-None c =
    let calls = c.args.calls.now in
    let is : slice_get calls 0 ≡ None = sym c.first.ensures.value ∙ ap option_copied c.in-None.is in
    adds_nothing c.args.out.now (IsMadeRow calls) (none_from (made_row (slice_get calls 0) calls) (λ i x. ap (λ (o : Option WaveItem). made_row o calls i x) is) 0 calls)

pub returns-then-not-all_count : goal.returns-then-not-all_count
returns-then-not-all_count c =
    let calls = c.args.calls.now in
    let first = c.in-Some.first.now in
    let is : slice_get calls 0 ≡ Some first = sym c.first.ensures.value ∙ ap option_copied c.in-Some.is in
    let some : all_count calls ≡ false = sym c.all_count.ensures ∙ c.if-not-all_count.true in
    let row = λ (i : ℕ) (x : WaveItem). members_row (making_of first.kind) first.name.members (split_rows first.name.members calls) i x in
    adds_nothing c.args.out.now (IsMadeRow calls)
    (none_from (made_row (slice_get calls 0) calls) (λ i x. ap (λ (o : Option WaveItem). made_row o calls i x) is ∙ ap (λ b. cond b (row i x) None) some) 0 calls)

pub returns-else-not-all_count : goal.returns-else-not-all_count
returns-else-not-all_count c =
    let calls = c.args.calls.now in
    let first = c.in-Some.first.now in
    let is : slice_get calls 0 ≡ Some first = sym c.first.ensures.value ∙ ap option_copied c.in-Some.is in
    let all : all_count calls ≡ true = sym c.all_count.ensures ∙ c.if-not-all_count.false in
    let members = c.ranks-members.ensures.ranks ∙ c.members.ensures in
    let r = c.report_members.result in
    let new = c.report_members.new.out in
    let with_making = subst (λ (m : Making). OnOk r (Adds c.args.out.now new (GivenFrom (members_row m c.ranks-members.result.now (split_rows c.ranks-members.result.now calls)) 0 calls))) c.making_of.ensures c.report_members.ensures in
    let with_members = subst (λ (ms : List ℕ). OnOk r (Adds c.args.out.now new (GivenFrom (members_row (making_of first.kind) ms (split_rows ms calls)) 0 calls))) members with_making in
    let counted = subst (λ b. OnOk r (Adds c.args.out.now new (GivenFrom (λ i x. cond b (members_row (making_of first.kind) first.name.members (split_rows first.name.members calls) i x) None) 0 calls))) (sym all) with_members in
    subst (λ (o : Option WaveItem). OnOk r (Adds c.args.out.now new (GivenFrom (made_row o calls) 0 calls))) (sym is) counted
