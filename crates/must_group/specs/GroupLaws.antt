-- The operations on groups in the words of the standard (MPI 3.1 section 6.3.2), whatever computes them.
use Rattle.std.specs.Prelude.{◌≡◌, ◌↔◌, ◌⊎◌, ℕ, ◌+◌, ◌<◌, ℤ, pos, ◌≤ℤ◌, ◌<ℤ◌, List, take, drop, length, Contains, All, None, IfSome, nat_eq, nat_abs, slice_index, slice_index_or}
use Rattle.std.specs.List.{IsDistinct}
use Rattle.std.specs.Ordering.{int_eq}
use Rattle.must_group.specs.Groups.{union, intersection, difference, first_bad, incl, excl}

-- a place of the whole for a place of the part
abbrev pub PlaceIn : List ℕ → List ℕ → ℕ → Type 0
PlaceIn part whole i = (k : ℕ) × (k < length whole) × (slice_index whole k ≡ slice_index part i)

-- places of the whole for two places of the part, in the same order
abbrev pub PlacesIn : List ℕ → List ℕ → ℕ → ℕ → Type 0
PlacesIn part whole i j = (k : ℕ) × (l : ℕ) × (k < l) × (l < length whole) × (slice_index whole k ≡ slice_index part i) × (slice_index whole l ≡ slice_index part j)

-- the members of the part stand in the whole, and in the same order
pub record KeepsOrder (part whole : List ℕ) : Type 0 where
  pub each : (i : ℕ) → i < length part → PlaceIn part whole i
  pub order : (i j : ℕ) → i < j → j < length part → PlacesIn part whole i j

-- the members of either group, each once, those of the first in front in their order and the others in the second's order
pub record IsUnionOf (first second joined : List ℕ) : Type 0 where
  pub members : (rank : ℕ) → Contains joined rank ↔ (Contains first rank ⊎ Contains second rank)
  pub once : IsDistinct nat_eq joined
  pub front : take (length first) joined ≡ first
  pub behind : KeepsOrder (drop (length first) joined) second

abbrev pub UnionLaw : Type 0
UnionLaw = (first second : List ℕ) → IsDistinct nat_eq first → IsDistinct nat_eq second → IsUnionOf first second (union first second)

-- the members of both groups, each once, in the first's order
pub record IsIntersectionOf (first second shared : List ℕ) : Type 0 where
  pub members : (rank : ℕ) → Contains shared rank ↔ (Contains first rank × Contains second rank)
  pub once : IsDistinct nat_eq shared
  pub order : KeepsOrder shared first

abbrev pub IntersectionLaw : Type 0
IntersectionLaw = (first second : List ℕ) → IsDistinct nat_eq first → IsIntersectionOf first second (intersection first second)

-- the members of the first group that the second lacks, each once, in the first's order
pub record IsDifferenceOf (first second left : List ℕ) : Type 0 where
  pub members : (rank : ℕ) → Contains left rank ↔ (Contains first rank × (Contains second rank → ⊥))
  pub once : IsDistinct nat_eq left
  pub order : KeepsOrder left first

abbrev pub DifferenceLaw : Type 0
DifferenceLaw = (first second : List ℕ) → IsDistinct nat_eq first → IsDifferenceOf first second (difference first second)

-- union and intersection are associative
pub record Associates : Type 0 where
  pub unions : (a b c : List ℕ) → union (union a b) c ≡ union a (union b c)
  pub intersections : (a b c : List ℕ) → intersection (intersection a b) c ≡ intersection a (intersection b c)

-- a listed rank is the position of one of n members
abbrev pub IsPosition : ℕ → ℤ → Type 0
IsPosition n rank = (pos 0 ≤ℤ rank) × (rank <ℤ pos n)

-- a list of ranks has no bad place exactly where all are positions and no two are equal
abbrev pub ValidLaw : Type 0
ValidLaw = (n : ℕ) (listed : List ℤ) → (first_bad n listed ≡ None) ↔ (All (IsPosition n) listed × IsDistinct int_eq listed)

-- the ranks before the first bad place are positions and distinct, and with the rank there they are not
pub record IsFirstBad (n : ℕ) (listed : List ℤ) (place : ℕ) : Type 0 where
  pub within : place < length listed
  pub before : All (IsPosition n) (take place listed) × IsDistinct int_eq (take place listed)
  pub bad : (IsPosition n (slice_index_or listed place (pos 0)) → ⊥) ⊎ Contains (take place listed) (slice_index_or listed place (pos 0))

abbrev pub FirstBadLaw : Type 0
FirstBadLaw = (n : ℕ) (listed : List ℤ) → IfSome (first_bad n listed) (IsFirstBad n listed)

-- the process at position i is the one that has the i-th listed rank in the old group
pub record IsInclOf (members : List ℕ) (listed : List ℤ) (chosen : List ℕ) : Type 0 where
  pub count : length chosen ≡ length listed
  pub each : (i : ℕ) → i < length listed → slice_index chosen i ≡ slice_index members (nat_abs (slice_index_or listed i (pos 0)))
  pub once : IsDistinct nat_eq chosen

abbrev pub InclLaw : Type 0
InclLaw = (members : List ℕ) (listed : List ℤ) → IsDistinct nat_eq members → first_bad (length members) listed ≡ None → IsInclOf members listed (incl members listed)

-- the processes with the listed ranks are deleted, and the others keep their order
pub record IsExclOf (members : List ℕ) (listed : List ℤ) (left : List ℕ) : Type 0 where
  pub kept : (k : ℕ) → k < length members → Contains left (slice_index members k) ↔ (Contains listed (pos k) → ⊥)
  pub count : length left + length listed ≡ length members
  pub once : IsDistinct nat_eq left
  pub order : KeepsOrder left members

abbrev pub ExclLaw : Type 0
ExclLaw = (members : List ℕ) (listed : List ℤ) → IsDistinct nat_eq members → first_bad (length members) listed ≡ None → IsExclOf members listed (excl members listed)
