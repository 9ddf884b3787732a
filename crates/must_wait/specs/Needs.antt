-- The needs of the calls of a run (docs/WAITING.md, "Needs").
use Rattle.std.specs.Prelude.{ℕ, List, [], Option, Some, None, length, slice_get, sum_by}
use Rattle.must_call.specs.declared.place.Place.{Place}

-- the alternatives of a call, each a list of places
abbrev pub Needs : Type 0
Needs = List (List Place)

-- for each rank the needs of its calls in order
abbrev pub Rows : Type 0
Rows = List (List Needs)

abbrev pub calls_in : Option (List Needs) → List Needs
calls_in None = []
calls_in (Some calls) = calls

-- the calls of a rank; a rank that isn't there has none
abbrev pub calls_of : Rows → ℕ → List Needs
calls_of rows rank = calls_in (slice_get rows rank)

-- the needs of a call, none where there is no such call
abbrev pub needs_of : Rows → ℕ → ℕ → Option Needs
needs_of rows rank call = slice_get (calls_of rows rank) call

-- the calls of all ranks
abbrev pub call_count : Rows → ℕ
call_count rows = sum_by length rows
