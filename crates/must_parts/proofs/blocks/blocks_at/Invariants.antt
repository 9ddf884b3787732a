use Rattle.std.proofs.Common.{◌≡◌, map, drop}
use Rattle.must_call.specs.Arguments.{seen}
use Rattle.must_rules.specs.Significant.{first_told}
use Rattle.must_rules.specs.Parts.{blocks_in}
use Rattle.must_parts.specs.Telling.{layout_seen}
use Rattle.must_parts.proofs.blocks.blocks_at.Given as goal

-- no argument before tells of them
abbrev pub invariant-loop-argument : goal.invariant-loop-argument
invariant-loop-argument l = first_told (blocks_in (layout_seen l.layout) l.side) (map seen (drop l.argument-index l.arguments)) ≡ first_told (blocks_in (layout_seen l.layout) l.side) (map seen l.arguments)
