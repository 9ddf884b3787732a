use Rattle.std.proofs.Common.{◌≡◌, ℕ, List}
use Rattle.must_node.specs.declared.node.Node.{Node}
use Rattle.must_format.specs.declared.fault.StreamFault.{StreamFault}
use Rattle.must_format.specs.Stream.{whose}
use Rattle.must_codec.specs.Reader.{Failed}
use Rattle.must_codec.specs.Views.{IsOpen}
use Rattle.must_tree.specs.Beside.{Beside}
use Rattle.must_tree.proofs.rank.read_calls.Given as goal

abbrev pub invariant-loop : goal.invariant-loop
invariant-loop g l = record {
  beside : (bytes : List ℕ) (first : Node) → Beside l.fn.expect.rank l.fn.expect.size bytes (g.S.Source.left l.fn.src) l.fn.reader l.fn.walk first l.fn.node
      → Beside l.fn.expect.rank l.fn.expect.size bytes (g.S.Source.left l.src) l.reader l.walk first l.node;
  kept : g.S.Source.faults l.src ≡ g.S.Source.faults l.fn.src;
  whose : l.reader.expect ≡ whose l.fn.expect.rank l.fn.expect.size;
  goes_on : IsOpen l.reader.phase;
  unfailed : (f : StreamFault) → l.reader.phase ≡ Failed f → ⊥;
}
