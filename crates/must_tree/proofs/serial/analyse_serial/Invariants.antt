use Rattle.std.proofs.Common.{◌≡◌, length}
use Rattle.must_tree.proofs.Analysing.{Analysing}
use Rattle.must_tree.proofs.serial.analyse_serial.Given as goal

abbrev pub invariant-loop-rank : goal.invariant-loop-rank
invariant-loop-rank g l = record {
  size_is : l.size ≡ length l.fn.parts;
  analysing : Analysing g.S.Source.left g.S.Source.faults l.fn.parts l.parts l.rank l.node;
}
