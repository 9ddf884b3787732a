use Rattle.std.proofs.Common.{◌≡◌, drop}
use Rattle.must_node.specs.Waits.{first_unreached}
use Rattle.must_node.proofs.waits.first_unreached.Given as goal

abbrev pub invariant-loop-place : goal.invariant-loop-place
invariant-loop-place l = first_unreached l.rows (drop l.place-index l.places) ≡ first_unreached l.rows l.places
