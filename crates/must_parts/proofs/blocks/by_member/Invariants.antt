use Rattle.std.proofs.Common.{◌≡◌, map, take}
use Rattle.must_rules.specs.Parts.{block_of}
use Rattle.must_parts.specs.Telling.{block_seen, layout_seen}
use Rattle.must_parts.proofs.blocks.by_member.Given as goal

abbrev pub invariant-loop-amount : goal.invariant-loop-amount
invariant-loop-amount l = map block_seen l.blocks.items ≡ map (block_of (layout_seen l.layout)) (take l.amount-index l.amounts)
