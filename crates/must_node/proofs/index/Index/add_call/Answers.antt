use Rattle.std.proofs.Common.{subst}
use Rattle.std.specs.BTreeMap as tree
use Rattle.must_node.specs.Indexed.{Keeps}
use Rattle.must_node.specs.Partners.{spot_cmp, member_cmp}
use Rattle.must_node.proofs.index.Index.add_call.Goals as goal

pub returns-clause-calls : goal.returns-clause-calls
returns-clause-calls c = subst (λ k. Keeps spot_cmp (tree.get spot_cmp c.args.self.now.calls) (tree.get spot_cmp c.keep_first-2.new.map) k c.args.call) c.spot-spot.ensures c.in_ok-keep_first-2.ensures

pub returns-clause-members : goal.returns-clause-members
returns-clause-members c =
    subst (λ k. Keeps member_cmp (tree.get member_cmp c.args.self.now.members) (tree.get member_cmp c.keep_first.new.map) k c.args.call.place) c.in_ok-member.ensures c.in_ok-keep_first.ensures
