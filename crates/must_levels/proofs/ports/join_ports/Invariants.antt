use Rattle.std.proofs.Common.{◌≡◌, ◌++◌, map}
use Rattle.std.specs.Vec.Iter.{into_iter_items}
use Rattle.must_levels.specs.Sending.{closing_of}
use Rattle.must_levels.proofs.ports.join_ports.Given as goal

abbrev pub invariant-loop-port : goal.invariant-loop-port
invariant-loop-port g l = record { all : l.yielded ++ into_iter_items l.port-iterator ≡ l.fn.ports.items; taker : l.taker ≡ record l.fn.taker { joined = l.fn.taker.joined ++ map closing_of l.yielded } }
