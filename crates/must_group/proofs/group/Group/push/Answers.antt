use Rattle.std.proofs.Common.{sym, ◌∙◌}
use Rattle.std.specs.Cmp.{nat_eq_equiv}
use Rattle.std.proofs.lemmas.Bool.{true≢false}
use Rattle.must_group.proofs.Placed.{still_rises}
use Rattle.std.proofs.lemmas.Map.Keys.{IsDistinct-push}
use Rattle.must_group.proofs.group.Group.push.Goals as goal
use Rattle.must_group.proofs.group.Group.push.Goals.{then-self, else-self}

pub invariant_of-self-2 : goal.invariant_of-self-2
invariant_of-self-2 c =
    let absent = rw (← c.self.view_is) at c.requires in
    rw c.in_ok-push.ensures.items (
      IsDistinct-push nat_eq_equiv c.self.inside.ranks.items c.args.rank c.self.invariant.0 absent,
      elim c.if-self.branch [
        | then-self w ↦ λ e. still_rises w.deref.result.now c.self.inside.ranks.items c.args.rank w.is_behind-rises.result c.if-self.rises w.deref.ensures.value w.is_behind-rises.ensures w.rises-is e (c.self.invariant.1 w.if-self.true)
        | else-self w ↦ λ e. absurd (true≢false (sym e ∙ w.rises-is ∙ w.if-self.false))
      ],
    )
