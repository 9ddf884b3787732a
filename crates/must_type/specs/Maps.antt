-- Type maps and their bounds (MPI 3.1, 4.1.1, 4.1.6 and 4.1.7; docs/TYPES.md). A map is a list of entries, each a basic
-- type or a marker of a bound, with its displacement in bytes.
use Rattle.std.specs.Prelude.{ℕ, zero, suc, ◌+◌, max, ℤ, pos, ◌+ℤ◌, ◌-ℤ◌, ◌*ℤ◌, ◌≤ℤ◌, List, [], ◌∷◌, ◌++◌, map, Option, Some, None, unwrap_or}
use Rattle.std.specs.Int.{int_min, int_max, int_rem_euclid}
use Rattle.must_call.specs.declared.basic.Basic.{Basic}
use Rattle.must_call.specs.Basics.{size_of}

pub data Entry : Type 0 where
  Element : Basic → ℤ → Entry
  LowerMarker : ℤ → Entry
  UpperMarker : ℤ → Entry

abbrev pub displacement : Entry → ℤ
displacement (Element b d) = d
displacement (LowerMarker d) = d
displacement (UpperMarker d) = d

-- displacement plus size; a marker has size 0
abbrev pub end_of : Entry → ℤ
end_of (Element b d) = d +ℤ pos (size_of b)
end_of (LowerMarker d) = d
end_of (UpperMarker d) = d

-- the sum of the sizes of the basics
abbrev pub size : List Entry → ℕ
size [] = 0
size (Element b d ∷ es) = size_of b + size es
size (LowerMarker d ∷ es) = size es
size (UpperMarker d ∷ es) = size es

-- the greatest alignment of the basics, which is that of their sizes
abbrev pub alignment : List Entry → ℕ
alignment [] = 1
alignment (Element b d ∷ es) = max (size_of b) (alignment es)
alignment (LowerMarker d ∷ es) = alignment es
alignment (UpperMarker d ∷ es) = alignment es

-- where the lower markers stand, and where the upper ones do
abbrev pub lower_markers : List Entry → List ℤ
lower_markers [] = []
lower_markers (Element b d ∷ es) = lower_markers es
lower_markers (LowerMarker d ∷ es) = d ∷ lower_markers es
lower_markers (UpperMarker d ∷ es) = lower_markers es

abbrev pub upper_markers : List Entry → List ℤ
upper_markers [] = []
upper_markers (Element b d ∷ es) = upper_markers es
upper_markers (LowerMarker d ∷ es) = upper_markers es
upper_markers (UpperMarker d ∷ es) = d ∷ upper_markers es

abbrev pub smaller : ℤ → Option ℤ → ℤ
smaller x None = x
smaller x (Some y) = int_min x y

abbrev pub greater : ℤ → Option ℤ → ℤ
greater x None = x
greater x (Some y) = int_max x y

-- the least and the greatest of some numbers, where there are any
abbrev pub least : List ℤ → Option ℤ
least [] = None
least (x ∷ xs) = Some (smaller x (least xs))

abbrev pub greatest : List ℤ → Option ℤ
greatest [] = None
greatest (x ∷ xs) = Some (greater x (greatest xs))

-- the lower bound: the least lower marker, else the least displacement; 0 for an empty map
unfoldable pub lower : List Entry → ℤ
lower es = unwrap_or (least (lower_markers es)) (unwrap_or (least (map displacement es)) (pos 0))

-- the least number from 0 on that makes the length a multiple of the alignment
abbrev pub padding : ℤ → ℕ → ℤ
padding length alignment = int_rem_euclid (pos 0 -ℤ length) (pos alignment)

-- the end of what is in the map, with the padding that the lower bound and the alignment ask for
abbrev pub padded : ℤ → ℕ → ℤ → ℤ
padded lower alignment end = end +ℤ padding (end -ℤ lower) alignment

abbrev pub padded_end : ℤ → ℕ → Option ℤ → ℤ
padded_end lower alignment None = pos 0
padded_end lower alignment (Some end) = padded lower alignment end

-- the upper bound: the greatest upper marker, else the greatest end with its padding; 0 for an empty map
unfoldable pub upper : List Entry → ℤ
upper es = unwrap_or (greatest (upper_markers es)) (padded_end (lower es) (alignment es) (greatest (map end_of es)))

unfoldable pub extent : List Entry → ℤ
extent es = upper es -ℤ lower es

abbrev pub moved_entry : ℤ → Entry → Entry
moved_entry d (Element b at) = Element b (at +ℤ d)
moved_entry d (LowerMarker at) = LowerMarker (at +ℤ d)
moved_entry d (UpperMarker at) = UpperMarker (at +ℤ d)

-- the map with d added to each displacement
abbrev pub moved : ℤ → List Entry → List Entry
moved d [] = []
moved d (e ∷ es) = moved_entry d e ∷ moved d es

abbrev pub without_markers : List Entry → List Entry
without_markers [] = []
without_markers (Element b d ∷ es) = Element b d ∷ without_markers es
without_markers (LowerMarker d ∷ es) = without_markers es
without_markers (UpperMarker d ∷ es) = without_markers es

-- the lists for 0, 1 and on to n - 1, one behind another
abbrev pub each_below : {X : Type 0} → ℕ → (ℕ → List X) → List X
each_below zero f = []
each_below (suc n) f = each_below n f ++ f n

-- a block: n copies at a displacement, each one extent behind the one before
unfoldable pub block : ℕ → List Entry → ℤ → List Entry
block n es d = each_below n (λ j. moved (d +ℤ pos j *ℤ extent es) es)

-- no further than n bytes from 0
pub record IsBounded (n : ℕ) (at : ℤ) : Type 0 where
  pub low : (pos 0 -ℤ pos n) ≤ℤ at
  pub high : at ≤ℤ pos n
