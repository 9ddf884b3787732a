use Rattle.std.proofs.Common.{◌≡◌, drop, List}
use Rattle.must_rules.specs.Parts.{Part, numbered}
use Rattle.must_parts.specs.Placing.{ArePlaced}
use Rattle.must_parts.proofs.placed.numbered.Given as goal

-- none before has the number
abbrev pub invariant-loop-part : goal.invariant-loop-part
invariant-loop-part l = (ps : List Part) → ArePlaced l.parts ps → numbered l.number (drop l.part-index ps) ≡ numbered l.number ps
