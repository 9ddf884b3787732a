use Rattle.std.proofs.Common.{sym, subst, ap, arith}
use Rattle.must_pending.specs.Clashes.{weight_of}
use Rattle.must_pending.specs.Groups.{Surrounds, SurroundAll}
use Rattle.must_pending.proofs.GroupLaws.{below_all, above_all, all_left}
use Rattle.must_pending.proofs.group.Group.finish.Goals as goal

pub returns-then-request-self-clause-left : goal.returns-then-request-self-clause-left
returns-then-request-self-clause-left c = sym (below_all c.args.request c.self.inside.common c.args.self.now c.if-request-self.true (subst (SurroundAll c.self.inside.common) c.self.view_is c.self.invariant))

pub returns-then-request-self-clause-weight : goal.returns-then-request-self-clause-weight
returns-then-request-self-clause-weight c =
    let same = below_all c.args.request c.self.inside.common c.args.self.now c.if-request-self.true (subst (SurroundAll c.self.inside.common) c.self.view_is c.self.invariant) in
    omega (arith, ap weight_of same)

pub returns-then-self-request-clause-left : goal.returns-then-self-request-clause-left
returns-then-self-request-clause-left c = sym (above_all c.args.request c.self.inside.common c.args.self.now c.if-self-request.true (subst (SurroundAll c.self.inside.common) c.self.view_is c.self.invariant))

pub returns-then-self-request-clause-weight : goal.returns-then-self-request-clause-weight
returns-then-self-request-clause-weight c =
    let same = above_all c.args.request c.self.inside.common c.args.self.now c.if-self-request.true (subst (SurroundAll c.self.inside.common) c.self.view_is c.self.invariant) in
    omega (arith, ap weight_of same)

pub invariant_of-self : goal.invariant_of-self
invariant_of-self c = rw c.drop_request.ensures (all_left (Surrounds c.self.inside.common) c.args.request c.self.inside.operations.items c.self.invariant)
