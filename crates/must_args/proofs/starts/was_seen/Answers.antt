use Rattle.std.proofs.Common.{not, ap, ◌∙◌}
use Rattle.std.specs.Ordering.{nat_cmp}
use Rattle.std.specs.BTreeSet.{contains}
use Rattle.must_args.proofs.Seen.{seen_more, not_not}
use Rattle.must_args.proofs.starts.was_seen.Goals as goal

pub returns : goal.returns
returns c = record {
  again = ap not c.in_ok-added.ensures.added ∙ not_not (contains nat_cmp c.args.seen.now c.args.request);
  seen = λ h. c.in_ok-added.ensures.updates.0 h ∙ seen_more c.args.request h (contains nat_cmp c.args.seen.now h);
}
