use Rattle.std.proofs.Common.{take, List}
use Rattle.must_rules.specs.Parts.{Part}
use Rattle.must_parts.specs.Telling.{AreTold}
use Rattle.must_parts.specs.Placing.{ArePlaced}
use Rattle.must_parts.proofs.placed.place_parts.Given as goal

abbrev pub invariant-loop-told : goal.invariant-loop-told
invariant-loop-told l = (ps : List Part) → AreTold l.table.slots l.parts ps → ArePlaced l.placed.items (take l.told-index ps)
