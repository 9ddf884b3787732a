use Rattle.std.proofs.Common.{OnOk, sym, subst}
use Rattle.must_find.specs.Adds.{Adds}
use Rattle.must_coll.specs.declared.making.Making.{Making}
use Rattle.must_coll.specs.declared.making.Making.TheVariants as making
use Rattle.must_coll.specs.Given.{GivenFrom}
use Rattle.must_coll.specs.Made.{members_row, split_rows}
use Rattle.must_coll.proofs.Recorded.{none_recorded}
use Rattle.must_coll.proofs.NoCall.{adds_nothing, none_from}
use Rattle.must_coll.proofs.made.report_members.Goals as goal

pub returns-in-Nothing : goal.returns-in-Nothing
returns-in-Nothing c =
    let rows = split_rows c.args.members.now c.args.calls.now in
    subst (λ (m : Making). Adds c.args.out.now c.args.out.now (GivenFrom (members_row m c.args.members.now rows) 0 c.args.calls.now)) (sym c.in-Nothing.is)
    (adds_nothing c.args.out.now (GivenFrom (members_row making.Nothing c.args.members.now rows) 0 c.args.calls.now) (none_from (members_row making.Nothing c.args.members.now rows) (λ i x. none_recorded x x.members) 0 c.args.calls.now))

pub returns-in-Duplicate : goal.returns-in-Duplicate
returns-in-Duplicate c =
    subst (λ (m : Making). OnOk c.report_duplicate.result (Adds c.args.out.now c.report_duplicate.new.out (GivenFrom (members_row m c.args.members.now (split_rows c.args.members.now c.args.calls.now)) 0 c.args.calls.now))) (sym c.in-Duplicate.is) c.report_duplicate.ensures

pub returns-in-Create : goal.returns-in-Create
returns-in-Create c =
    subst (λ (m : Making). OnOk c.report_create.result (Adds c.args.out.now c.report_create.new.out (GivenFrom (members_row m c.args.members.now (split_rows c.args.members.now c.args.calls.now)) 0 c.args.calls.now))) (sym c.in-Create.is) c.report_create.ensures
