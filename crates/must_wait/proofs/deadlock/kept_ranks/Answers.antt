use Rattle.std.proofs.Common.{◌+◌, ℕ, List, sym, ap, ◌∙◌, subst}
use Rattle.std.specs.Ordering.{nat_cmp}
use Rattle.must_base.specs.Listing.{Lists}
use Rattle.must_wait.proofs.Kept.{KeptBelow, none_kept, kept_push, kept_skip}
use Rattle.must_wait.proofs.deadlock.kept_ranks.Goals as goal
use Rattle.must_wait.proofs.deadlock.kept_ranks.Goals.{then-is_some+in_ok-push, else-is_some}

pub loop-rank-init : goal.loop-rank-init
loop-rank-init c = subst (λ (l : List ℕ). Lists nat_cmp (KeptBelow c.args.kept.now 0) l) (sym c.new-found.ensures.items) (none_kept c.args.kept.now)

pub loop-rank-preserved : goal.loop-rank-preserved
loop-rank-preserved c = elim c.if-is_some.branch [
  | then-is_some+in_ok-push w ↦
      subst (λ (l : List ℕ). Lists nat_cmp (KeptBelow c.args.kept.now (c.loop-rank.rank + 1)) l) (sym (ap (λ v. v.items) w.found-is ∙ w.in_ok-push.ensures.items))
      (kept_push c.args.kept.now c.loop-rank.rank c.loop-rank.found.items (sym w.if-is_some.ensures) c.loop-rank.invariant)
  | else-is_some w ↦
      subst (λ (l : List ℕ). Lists nat_cmp (KeptBelow c.args.kept.now (c.loop-rank.rank + 1)) l) (sym (ap (λ v. v.items) w.found-is))
      (kept_skip c.args.kept.now c.loop-rank.rank c.loop-rank.found.items (sym w.if-is_some.ensures) c.loop-rank.invariant)
]
