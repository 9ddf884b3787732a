use Rattle.std.proofs.Common.{sym, subst}
use Rattle.std.specs.Prelude.{List}
use Rattle.must_rules.specs.Operations.{operations_of}
use Rattle.must_hold.specs.declared.held.Need.{Need}
use Rattle.must_hold.specs.Needing.{HaveNeeds}
use Rattle.must_hold.proofs.Finishing.{gives_last}
use Rattle.must_hold.proofs.Needs.{needs_listed, wildcard_rows}
use Rattle.must_hold.proofs.messages.Messages.finish.Goals as goal

pub returns-clause-gives : goal.returns-clause-gives
returns-clause-gives c = λ r calls k. gives_last r calls _ _ _ k.given_is (c.in_ok-give_rest.ensures r calls (operations_of r calls) k.rank_is k.holds)

pub returns-clause-rows : goal.returns-clause-rows
returns-clause-rows c = λ r calls k.
    wildcard_rows r calls c.args.self.rank c.deref.result.now c.args.rows.now c.add_wildcards.new.rows k.rank_is
    (subst (λ (ns : List Need). HaveNeeds r calls (operations_of r calls) ns) (sym c.deref.ensures.value) k.needs) c.in_ok-add_wildcards.ensures

pub returns-clause-needs : goal.returns-clause-needs
returns-clause-needs c = λ r calls k. needs_listed r calls (operations_of r calls) c.args.self.needs.items k.needs
