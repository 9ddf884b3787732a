-- What the code tells of parts, and the parts that this stands for.
use Rattle.std.specs.Prelude.{◌≡◌, ℕ, pos, Bool, List, map, Option, Some}
use Rattle.std.specs.Option.{option_map}
use Rattle.must_type.specs.Tree.{TypeTree, type_map, weight}
use Rattle.must_type.specs.Table.{tree_at}
use Rattle.must_rules.specs.Parts as parts
use Rattle.must_rules.specs.Parts.{Part}
use Rattle.std.specs.Global.{Vec}
use Rattle.must_call.specs.declared.call.Call.{Call}
use Rattle.must_rules.specs.Rank.{Rank}
use Rattle.must_rules.specs.Facts.{Facts}
use Rattle.must_rules.specs.ArgumentHandles.{StartOf}
use Rattle.must_rules.specs.Starts.{start_of}
use Rattle.must_rules.specs.Known.{facts_of, clear_behind}
use Rattle.must_rules.specs.Types.{sound_type}
use Rattle.must_derived.specs.declared.datatypes.Datatypes.{Datatypes}
use Rattle.must_derived.specs.Standing.{Stands}
use Rattle.must_parts.specs.Matching.{Matched, MatchedOption}
use Rattle.must_parts.specs.declared.told.Told.{Told}
use Rattle.must_parts.specs.declared.blocks.Block.{Block}
use Rattle.must_parts.specs.declared.blocks.Layout.{Layout}

abbrev pub block_seen : Block → parts.Block
block_seen b = record { address = b.address; count = b.count }

abbrev pub layout_seen : Layout → parts.Layout
layout_seen l = record { address = pos l.address; extent = l.extent; members = l.members; position = l.position; for_each = l.for_each }

abbrev pub blocks_seen : Option (Vec Block) → Option (List parts.Block)
blocks_seen told = option_map (λ blocks. map block_seen blocks.items) told

-- a type of a table has the map and the weight of another
pub record IsAlike (held t : TypeTree) : Type 0 where
  pub map_is : type_map held ≡ type_map t
  pub weight_is : weight held ≡ weight t

-- the code tells of a part, whose datatype the table has by its number
pub record IsTold (slots : List (Option TypeTree)) (told : Told) (part : Part) : Type 0 where
  pub number_is : told.number ≡ part.number
  pub access_is : told.access ≡ part.access
  pub blocks_are : map block_seen told.blocks.items ≡ part.blocks
  pub held : TypeTree
  pub held_is : tree_at slots told.dtype.number ≡ Some held
  pub alike : IsAlike held part.datatype

-- one is told exactly where there is one
abbrev pub IsToldOf : List (Option TypeTree) → Option Told → Option Part → Type 0
IsToldOf slots told part = MatchedOption (IsTold slots) told part

-- these parts, one by one
abbrev pub AreTold : List (Option TypeTree) → List Told → List Part → Type 0
AreTold slots told parts = Matched (IsTold slots) told parts

-- what is asked at a call is what its rank knows behind these calls
pub record Sees (r : Rank) (calls : List Call) (facts : Facts) (sound : ℕ → Bool) (starts : StartOf) (types : Datatypes) : Type 0 where
  pub facts_are : facts ≡ facts_of r calls
  pub sound_are : sound ≡ sound_type (clear_behind r) calls
  pub starts_are : starts ≡ start_of (clear_behind r) calls
  pub stands : Stands (clear_behind r) types calls

-- the same without its types
pub record SeesStarts (r : Rank) (calls : List Call) (facts : Facts) (starts : StartOf) : Type 0 where
  pub facts_are : facts ≡ facts_of r calls
  pub starts_are : starts ≡ start_of (clear_behind r) calls
