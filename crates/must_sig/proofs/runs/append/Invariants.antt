use Rattle.std.proofs.Common.{◌≡◌, ◌++◌, take}
use Rattle.must_sig.specs.Signatures.{laid}
use Rattle.must_sig.specs.Runs.{AreRuns, AreMerged}
use Rattle.must_sig.proofs.runs.append.Given as goal

abbrev pub invariant-loop-i : goal.invariant-loop-i
invariant-loop-i l = record {
  laid : laid l.runs.items ≡ laid l.initial.runs.items ++ laid (take l.i l.more);
  runs : AreRuns l.runs.items;
  merged : AreMerged l.runs.items;
}
