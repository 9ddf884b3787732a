use Rattle.std.proofs.Common.{◌≤◌, List}
use Rattle.must_call.specs.declared.call.Call.{Call}
use Rattle.must_rules.specs.Starts.{Clearness}
use Rattle.must_handle.specs.Slots.{Stands}
use Rattle.must_local.proofs.Gathered.{OpenSoFar}
use Rattle.must_local.proofs.leaks.add_class.Given as goal

abbrev pub invariant-loop-i : goal.invariant-loop-i
invariant-loop-i l = record {
  few : l.part ≤ l.i;
  so_far : (is_clear : Clearness) (calls : List Call) → Stands is_clear l.lives calls → OpenSoFar l.at.rank l.at.call l.rule calls l.class l.i l.part l.initial.rows l.rows;
}
