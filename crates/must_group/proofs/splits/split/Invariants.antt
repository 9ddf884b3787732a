use Rattle.std.proofs.Common.{◌≡◌, ℤ, take}
use Rattle.std.specs.BTreeMap as tree
use Rattle.std.specs.Ordering.{int_cmp}
use Rattle.must_group.proofs.Gathered.{gathered}
use Rattle.must_group.proofs.splits.split.Given as goal

abbrev pub invariant-loop-row : goal.invariant-loop-row
invariant-loop-row l = (color : ℤ) → tree.get int_cmp l.groups color ≡ gathered (take l.row-index l.row-items) color
