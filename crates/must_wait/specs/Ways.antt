-- What alternatives stand for that name shared lists (docs/WAITING.md, "Shared lists").
use Rattle.std.specs.Prelude.{◌≡◌, ◌<◌, ℕ, length, ◌++◌, ◌∷◌, [], List, Option, Some, None, map, slice_set}
use Rattle.std.specs.List.{slice_index_or}
use Rattle.must_call.specs.declared.place.Place.{Place}
use Rattle.must_base.specs.Listing.{Has}
use Rattle.must_wait.specs.declared.way.Way.{Way}
use Rattle.must_wait.specs.declared.way.Way.TheVariants.{Own, Shared}
use Rattle.must_wait.specs.Needs.{Needs, calls_of}
use Rattle.must_wait.specs.Shared.{Table}

abbrev pub number_of : Way → Option ℕ
number_of (Own places) = None
number_of (Shared number) = Some number

abbrev pub places_of : List (List Place) → Way → List Place
places_of lists (Own places) = places
places_of lists (Shared number) = slice_index_or lists number []

-- each shared list that these alternatives name is there
abbrev pub AreThere : List (List Place) → List Way → Type 0
AreThere lists ways = (way : Way) (number : ℕ) → Has ways way → number_of way ≡ Some number → number < length lists

-- one more call of a rank
abbrev pub appended : Table → ℕ → Needs → List (Option ℕ) → Table
appended t rank needs numbers = record {
  needs = slice_set t.needs rank (calls_of t.needs rank ++ needs ∷ []);
  numbers = slice_set t.numbers rank (slice_index_or t.numbers rank [] ++ numbers ∷ []);
  lists = t.lists;
}

abbrev pub pushed : Table → ℕ → List Way → Table
pushed t rank ways = appended t rank (map (places_of t.lists) ways) (map number_of ways)
