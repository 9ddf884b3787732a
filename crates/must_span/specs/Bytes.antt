-- The bytes of a message: the addresses of the entries of its map (MPI 3.1, 4.1; docs/SPANS.md).
use Rattle.std.specs.Prelude.{◌≡◌, ℕ, ◌<◌, ℤ, pos, ◌+ℤ◌, ◌≤ℤ◌, ◌<ℤ◌, ◌⊎◌, ◌↔◌, List, [], ◌∷◌, Some, slice_get}
use Rattle.must_call.specs.Basics.{size_of}
use Rattle.must_type.specs.Maps.{Entry, Element, LowerMarker, UpperMarker, block}
use Rattle.must_type.specs.Tree.{TypeTree, type_map}
use Rattle.must_span.specs.declared.ranges.AddressRange.{AddressRange}
use Rattle.must_span.specs.Ranges.{Covers}

-- an address of an entry; a marker has none
abbrev pub IsByte : Entry → ℤ → Type 0
IsByte (Element b d) x = (d ≤ℤ x) × (x <ℤ (d +ℤ pos (size_of b)))
IsByte (LowerMarker d) x = ⊥
IsByte (UpperMarker d) x = ⊥

-- an address of one of the entries
abbrev pub Holds : List Entry → ℤ → Type 0
Holds [] x = ⊥
Holds (e ∷ es) x = IsByte e x ⊎ Holds es x

-- the ranges are exactly the addresses of the entries
abbrev pub AreBytes : List AddressRange → List Entry → Type 0
AreBytes rs es = (x : ℤ) → Covers rs x ↔ Holds es x

-- the entries of `count` elements of a type from `base` on, one extent apart
abbrev pub message_map : ℤ → ℕ → TypeTree → List Entry
message_map base count t = block count (type_map t) base

-- two entries at different places have an address in common
pub record ShareByte (es : List Entry) : Type 0 where
  pub i : ℕ
  pub k : ℕ
  pub first : Entry
  pub second : Entry
  pub before : i < k
  pub first_is : slice_get es i ≡ Some first
  pub second_is : slice_get es k ≡ Some second
  pub address : ℤ
  pub in_first : IsByte first address
  pub in_second : IsByte second address
