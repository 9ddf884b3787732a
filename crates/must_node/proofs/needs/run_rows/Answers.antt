use Rattle.std.proofs.Common.{◌∙◌}
use Rattle.must_node.proofs.Pushing.{ranks_none}
use Rattle.must_node.proofs.needs.run_rows.Goals as goal

pub loop-fact-init : goal.loop-fact-init
loop-fact-init c = record {
  shared = c.in_ok-sharing.ensures.shared c.args.facts.now;
  needs = c.in_ok-sharing.ensures.needs ∙ ranks_none c.args.strict c.args.facts.now 0 c.args.size;
}
