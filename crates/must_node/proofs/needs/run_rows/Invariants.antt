use Rattle.std.proofs.Common.{◌≡◌, take}
use Rattle.must_node.specs.RunNeeds.{ranks_from}
use Rattle.must_node.specs.Sharing.{AreShared}
use Rattle.must_node.proofs.needs.run_rows.Given as goal

abbrev pub invariant-loop-fact : goal.invariant-loop-fact
invariant-loop-fact l = record {
  shared : AreShared l.sharing l.facts;
  needs : l.sharing.rows.needs ≡ ranks_from l.strict l.facts (take l.fact-index l.facts) 0 l.size;
}
