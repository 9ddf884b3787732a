use Rattle.std.proofs.Common.{◌≡◌, ◌++◌}
use Rattle.must_sig.specs.Signatures.{laid, repeated}
use Rattle.must_sig.specs.Runs.{AreRuns, AreMerged}
use Rattle.must_sig.proofs.runs.append_times.Given as goal

abbrev pub invariant-loop-copy : goal.invariant-loop-copy
invariant-loop-copy l =
    record {
      laid : laid l.runs.items ≡ laid l.initial.runs.items ++ repeated l.copy (laid l.more);
      runs : AreRuns l.runs.items;
      merged : AreMerged l.runs.items;
    }
