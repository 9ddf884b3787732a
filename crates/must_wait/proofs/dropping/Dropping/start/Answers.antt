use Rattle.std.proofs.Common.{◌∙◌}
use Rattle.must_wait.specs.Shared.{coded}
use Rattle.must_wait.proofs.Kept.{start_kept}
use Rattle.must_wait.proofs.dropping.Dropping.start.Goals as goal

pub returns-clause-kept : goal.returns-clause-kept
returns-clause-kept c = (
  0,
  start_kept (coded c.args.rows.now) c.args.blocked.now c.in_ok-kept.kept.items (c.in_ok-kept.ensures.len ∙ c.rank_count.ensures.count)
      (λ rank call e. (c.requires.exact (record { rank = rank; call = call })).0 (c.in_ok-kept.ensures.calls rank call e)) c.in_ok-kept.ensures.all,
)
