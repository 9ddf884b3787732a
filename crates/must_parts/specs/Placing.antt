-- Parts that are laid out, and those that they stand for.
use Rattle.std.specs.Prelude.{◌≡◌, List, Option}
use Rattle.must_rules.specs.Parts.{Part, part_weight}
use Rattle.must_parts.specs.Matching.{Matched, MatchedOption}
use Rattle.must_parts.specs.Laying.{IsLaid}
use Rattle.must_parts.specs.declared.placed.Placed.{Placed}

pub record IsPlaced (placed : Placed) (part : Part) : Type 0 where
  pub number_is : placed.number ≡ part.number
  pub access_is : placed.access ≡ part.access
  pub weight_is : placed.weight ≡ part_weight part
  pub laid : IsLaid placed.laid part.datatype part.blocks

-- one is laid out exactly where there is one
abbrev pub IsPlacedOf : Option Placed → Option Part → Type 0
IsPlacedOf placed part = MatchedOption IsPlaced placed part

abbrev pub ArePlaced : List Placed → List Part → Type 0
ArePlaced placed parts = Matched IsPlaced placed parts
