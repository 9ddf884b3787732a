use Rattle.std.proofs.Common.{◌≡◌, ◌⊎◌, ◌+◌, ◌*◌, ◌≤◌, length, map}
use Rattle.must_levels.specs.Sending.{ArePorts, ArePlaced, range_of_port}
use Rattle.must_levels.proofs.PortLists.{EndBy}
use Rattle.must_levels.proofs.ports.make_ports.Given as goal

abbrev pub invariant-loop-i : goal.invariant-loop-i
invariant-loop-i g l = record { at_most : l.at ≤ l.to; place : (l.at ≡ l.to) ⊎ (l.at ≡ l.from + l._i * l.width); count : length l.ports.items ≤ l._i; ports : ArePorts l.inbox l.width l.to l.at l.from l.ports.items; placed : ArePlaced 0 l.ports.items; taker : l.taker ≡ record l.fn.taker { ranges = map range_of_port l.ports.items }; below : EndBy l.at (map range_of_port l.ports.items) }
