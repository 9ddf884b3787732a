use Rattle.std.proofs.Common.{subst, take}
use Rattle.std.proofs.lemmas.List.{take_all}
use Rattle.must_pending.specs.Clashes.{IsFirst}
use Rattle.must_pending.specs.Groups.{joined}
use Rattle.must_pending.proofs.FirstLaws.{first_joined}
use Rattle.must_pending.proofs.GroupLaws.{joined_more}
use Rattle.must_pending.proofs.pending.first_clash_in.Goals as goal

pub loop-group-preserved : goal.loop-group-preserved
loop-group-preserved c =
    let gs = c.args.groups.now in
    let i = c.loop-group.group-index in
    let g = c.group-item.result in
    rw (joined_more gs i g c.loop-group-test.true c.group-item.is) (first_joined (joined (take i gs)) g _ _ _ _ _ c.loop-group.invariant c.clash.ensures c.earlier-first.ensures)

pub returns : goal.returns
returns c = subst (λ l. IsFirst (joined l) c.args.spans.now c.args.access c.loop-group.first) (take_all c.loop-group.group-index c.args.groups.now c.loop-group-test.false) c.loop-group.invariant
