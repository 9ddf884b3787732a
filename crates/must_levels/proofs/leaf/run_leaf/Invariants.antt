use Rattle.std.proofs.Common.{◌≡◌}
use Rattle.must_levels.proofs.leaf.run_leaf.Given as goal

abbrev pub invariant-loop : goal.invariant-loop
invariant-loop g l = record { port : l.port ≡ record l.fn.port { sent = l.port.sent }; gave : g.M.RankReader.gave l.size l.rank l.fn.part l.part l.reader l.port.sent }
