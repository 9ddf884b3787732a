use Rattle.std.proofs.Common.{[], ◌∷◌}
use Rattle.must_pending.specs.Groups.{Surrounds}
use Rattle.must_pending.proofs.GroupLaws.{all_append, all_weaker}
use Rattle.must_pending.proofs.group.Group.push.Goals as goal

pub invariant_of-self-2 : goal.invariant_of-self-2
invariant_of-self-2 c =
    let operations = c.self.inside.operations.items in
    let held = c.args.held in
    rw (c.in_ok-push.ensures.items, c.new.ensures)
    (all_append (Surrounds c.wider-common.result) operations (held ∷ []) (all_weaker (Surrounds c.self.inside.common) (Surrounds c.wider-common.result) c.wider-common.ensures.first operations c.self.invariant) (c.wider-common.ensures.second held c.common_of.ensures, tt))
