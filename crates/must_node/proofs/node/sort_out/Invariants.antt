use Rattle.std.proofs.Common.{◌≡◌, List, ◌++◌}
use Rattle.std.specs.Vec.Iter.{into_iter_items}
use Rattle.must_p2p.specs.Items.{Orderly}
use Rattle.must_coll.specs.Waves as waves
use Rattle.must_entry.specs.declared.entry.Entry.{Entry}
use Rattle.must_entry.specs.Entries.{messages, calls}
use Rattle.must_node.specs.Inner.{inner, outer}
use Rattle.must_node.specs.Settling.{Knows}
use Rattle.must_node.proofs.node.sort_out.Given as goal

abbrev pub invariant-loop-entry : goal.invariant-loop-entry
invariant-loop-entry l = record {
  all : l.yielded ++ into_iter_items l.entry-iterator ≡ l.fn.entries.items;
  outer : l.left.items ≡ outer l.root l.range l.yielded;
  inner : (g : List Entry) → Knows l.fn.settled g → Orderly (messages (g ++ inner l.root l.range l.fn.entries.items)) → waves.Orderly (calls (g ++ inner l.root l.range l.fn.entries.items)) → Knows l.settled (g ++ inner l.root l.range l.yielded);
}
