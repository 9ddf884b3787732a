-- What the calls of a run wait for: the alternatives of each, as lists of places (docs/NODES.md, "Needs").
use Rattle.std.specs.Prelude.{ℕ, zero, suc, ◌+◌, Bool, ◌&&◌, not, List, [], ◌∷◌, map, if◌then◌else◌}
use Rattle.std.specs.List.{flat_map}
use Rattle.must_call.specs.declared.place.Place.{Place}
use Rattle.must_entry.specs.declared.want.Want.{Want}
use Rattle.must_entry.specs.declared.want.Want.TheVariants as want
use Rattle.must_wait.specs.Needs.{Needs, Rows}
use Rattle.must_node.specs.declared.fact.Fact.{Fact}
use Rattle.must_node.specs.Partners.{item_at, op_places, call_at, wave_places, needs_of_rank}

-- what a want stands for: a standard send waits for its receive only where no send is buffered
abbrev pub want_places : Bool → List Fact → Want → List Place
want_places strict facts (want.Op place part standard) = if standard && not strict then [] else op_places facts (item_at facts (record { rank = place.rank; call = place.call; part = part }))
want_places strict facts (want.Wave place) = wave_places facts (call_at facts (record { rank = place.rank; call = place.call; part = 0 }))

abbrev pub way_places : Bool → List Fact → List Want → List Place
way_places strict facts way = flat_map (want_places strict facts) way

abbrev pub call_needs : Bool → List Fact → List (List Want) → Needs
call_needs strict facts ways = map (way_places strict facts) ways

-- the calls of a rank, as they stand among these facts
abbrev pub rank_needs : Bool → (all some : List Fact) → ℕ → List Needs
rank_needs strict all some rank = map (λ w. call_needs strict all w.ways) (needs_of_rank some rank)

-- the calls of `count` ranks from this one on
abbrev pub ranks_from : Bool → (all some : List Fact) → (rank count : ℕ) → Rows
ranks_from strict all some rank zero = []
ranks_from strict all some rank (suc count) = rank_needs strict all some rank ∷ ranks_from strict all some (rank + 1) count

-- the calls of a run of `size` ranks
abbrev pub run_needs : Bool → List Fact → (size : ℕ) → Rows
run_needs strict facts size = ranks_from strict facts facts 0 size
