use Rattle.std.proofs.Common.{drop, sym, ap, ◌∙◌, add-one}
use Rattle.must_coll.specs.Created.{first_other}
use Rattle.must_coll.proofs.Others.{other_on}
use Rattle.must_coll.proofs.created.first_other.Goals as goal

pub loop-member-preserved : goal.loop-member-preserved
loop-member-preserved c =
    let ms = c.args.members.now in
    let calls = c.args.calls.now in
    let g = c.args.group.now in
    let i = c.loop-member.member-index in
    ap (λ n. first_other ms calls g (drop n g)) (add-one i) ∙ sym (other_on ms calls g g i c.loop-member-test.true (sym c.other_place.ensures ∙ c.in-None.is)) ∙ c.loop-member.invariant
