use Rattle.std.proofs.Common.{◌≡◌, take, List}
use Rattle.std.specs.Prelude.{sum_by}
use Rattle.must_rules.specs.Parts.{Part, part_weight}
use Rattle.must_parts.specs.Telling.{AreTold}
use Rattle.must_parts.proofs.weigh.weight_of.Given as goal

abbrev pub invariant-loop-told : goal.invariant-loop-told
invariant-loop-told l = (ps : List Part) → AreTold l.table.slots l.parts ps → l.sum ≡ sum_by part_weight (take l.told-index ps)
