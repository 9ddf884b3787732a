-- What has been laid out.
use Rattle.std.specs.Prelude.{◌≡◌, List, flat_map}
use Rattle.std.specs.List.{list_any}
use Rattle.must_type.specs.Tree.{TypeTree}
use Rattle.must_span.specs.Bytes.{AreBytes}
use Rattle.must_rules.specs.Parts.{Block, block_map}
use Rattle.must_rules.specs.Overlaps.{overlap}
use Rattle.must_parts.specs.declared.lay.Laid.{Laid}

-- the addresses of these blocks, and whether two entries of one of them share a byte
pub record IsLaid (laid : Laid) (t : TypeTree) (blocks : List Block) : Type 0 where
  pub bytes : AreBytes laid.spans (flat_map (block_map t) blocks)
  pub overlaps_is : laid.overlaps ≡ list_any (λ b. overlap (block_map t b)) blocks
