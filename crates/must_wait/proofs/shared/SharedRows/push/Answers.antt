use Rattle.std.proofs.Common.{◌≡◌, ℕ, List, Option, Some, None, map, slice_get, slice_index_or, sym, subst, ◌∙◌}
use Rattle.must_call.specs.declared.place.Place.{Place}
use Rattle.must_base.specs.Listing.{Has}
use Rattle.must_wait.specs.declared.way.Way.{Way}
use Rattle.must_wait.specs.Needs.{Needs}
use Rattle.must_wait.specs.Ways.{number_of}
use Rattle.must_wait.proofs.Listed.{has_front}
use Rattle.must_wait.proofs.Tables.{ways_fit}
use Rattle.must_wait.proofs.shared.SharedRows.push.Goals as goal

pub append-requires-clause-shared : goal.append-requires-clause-shared
append-requires-clause-shared c =
    let lists = c.args.self.now.lists in
    let ways = c.loop-way.yielded in
    let left = c.loop-way.invariant.left in
    let fits = ways_fit lists ways (λ w number h e. c.requires.shared w number (subst (λ (l : List Way). Has l w) (sym left) (has_front ways c.loop-way.way-iterator.rest.items w h)) e) in
    subst (λ (m : List (Option ℕ)). (way number : ℕ) → slice_index_or m way None ≡ Some number → (places : List Place) × (slice_get c.from_vec.result way ≡ Some places) × (slice_get lists number ≡ Some places)) (sym c.loop-way.invariant.numbers)
    (subst (λ (needs : Needs). (way number : ℕ) → slice_index_or (map number_of ways) way None ≡ Some number → (places : List Place) × (slice_get needs way ≡ Some places) × (slice_get lists number ≡ Some places)) (sym (c.from_vec.ensures ∙ c.loop-way.invariant.needs)) fits)
