use Rattle.std.proofs.Common.{◌≡◌, ◌≤◌, take}
use Rattle.must_type.specs.Tree.{greatest_depth}
use Rattle.must_type.specs.View.{trees_of}
use Rattle.must_type.proofs.forms.deepest.Given as goal

abbrev pub invariant-loop-i : goal.invariant-loop-i
invariant-loop-i l = record { value : l.depth ≡ greatest_depth (trees_of (take l.i l.olds)); shallow : l.depth ≤ 256 }
