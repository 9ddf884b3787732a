use Rattle.std.proofs.Common.{◌≡◌, ◌+◌, ◌*◌, take}
use Rattle.must_type.specs.Tree.{height, old_maps}
use Rattle.must_sig.specs.Signatures.{laid}
use Rattle.must_sig.specs.Runs.{AreRuns, AreMerged}
use Rattle.must_sig.proofs.Flat.{row_basics}
use Rattle.must_sig.proofs.unit.+unit.Given as goal

abbrev pub invariant-struct_runs-loop-i : goal.invariant-struct_runs-loop-i
invariant-struct_runs-loop-i l =
    record {
      laid : laid l.runs.items ≡ row_basics (take l.i l.blocks) (old_maps l.tree);
      runs : AreRuns l.runs.items;
      merged : AreMerged l.runs.items;
    }

abbrev pub decreases-copies_of : goal.decreases-copies_of
decreases-copies_of l = 2 * height l.tree.now + 1

abbrev pub decreases-old_copies : goal.decreases-old_copies
decreases-old_copies l = 2 * height l.tree.now

abbrev pub decreases-struct_runs : goal.decreases-struct_runs
decreases-struct_runs l = 2 * height l.tree.now
