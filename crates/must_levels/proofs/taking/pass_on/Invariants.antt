use Rattle.std.proofs.Common.{◌≡◌, List}
use Rattle.must_entry.specs.declared.batch.Batch.{Batch}
use Rattle.must_node.specs.Nodes.{StandsFor}
use Rattle.must_levels.proofs.taking.pass_on.Given as goal

abbrev pub invariant-loop : goal.invariant-loop
invariant-loop g l = record { port : l.port ≡ record l.fn.port { sent = l.port.sent }; stands : (taken : List Batch) → StandsFor l.fn.node l.fn.port.range l.root taken l.fn.port.sent → StandsFor l.node l.fn.port.range l.root taken l.port.sent }
